-- The two parts of the test for conflicts: does some decoder hear both packets, and do the packets
-- set some register to different values?
use Rattle.std.specs.Prelude.{ℕ, Bool, true, false, ◌||◌, ◌==◌, nat_lt, ◌/◌, ◌≡◌, Option, None, Some}
use Rattle.std.specs.Prelude.{if◌then◌else◌}
use Rattle.dcc_packet.specs.declared.address.Address.{Address}
use Rattle.dcc_packet.specs.declared.packet.Packet.{Packet}
use Rattle.dcc_packet.specs.declared.packet.Packet.TheVariants.{Idle, Loco as ToLoco, Accessory, Signal, Other}
use Rattle.dcc_regs.specs.declared.register.Who.{Who}
use Rattle.dcc_regs.specs.declared.register.SpeedMode.{SpeedMode}
use Rattle.dcc_regs.specs.declared.register.Register.{Register}
use Rattle.dcc_regs.specs.Heard.{hears, address_of}
use Rattle.dcc_regs.specs.Outputs.{is_full_reset}
use Rattle.dcc_regs.specs.Inner.HearsByAddress.{is_for}
use Rattle.dcc_regs.specs.Effects.{Differ}
use Rattle.dcc_regs.specs.Sets.{sets}

-- some decoder hears both packets `p` and `q`
pub record HeardTogether (p q : Packet) : Type 0 where
  pub who : Who
  pub first : hears who p ≡ true
  pub second : hears who q ≡ true

-- in speed mode `mode`, packets `p` and `q` set some register to different values
pub record DifferIn (mode : SpeedMode) (p q : Packet) : Type 0 where
  pub register : Register
  pub differ : Differ (sets mode p register) (sets mode q register)

-- true if some locomotive decoder hears packets to address `a` and packets to address `b`
abbrev pub meets : Address → Address → Bool
meets a b = is_for (Some a) b || is_for (Some b) a

-- the number of the accessory decoder that hears a packet. The number is 511 if all accessory
-- decoders hear the packet. If no accessory decoder hears the packet, the result is `None`.
abbrev pub board_of_packet : Packet → Option ℕ
board_of_packet (ToLoco to what) = if is_full_reset to what then Some 511 else None
board_of_packet (Accessory board output on) = Some board.number
board_of_packet (Signal address aspect) =
    if address.number == 2047 || nat_lt address.number 2044 then Some (address.number / 4) else None
board_of_packet (Other frame) = None
board_of_packet Idle = None

-- true if both options have a value and `meet` returns true for the two values
abbrev pub both_meet : {A : Type 0} → (A → A → Bool) → Option A → Option A → Bool
both_meet meet (Some a) (Some b) = meet a b
both_meet meet a b = false

-- true if some accessory decoder hears packets to board `a` and packets to board `b`: `a` and `b`
-- are equal, or one of them is the broadcast 511
abbrev pub boards_meet : ℕ → ℕ → Bool
boards_meet a b = a == b || a == 511 || b == 511

-- true if some locomotive decoder hears both `p` and `q`
abbrev pub some_loco : Packet → Packet → Bool
some_loco p q = both_meet meets (address_of p) (address_of q)

-- true if some accessory decoder hears both `p` and `q`
abbrev pub some_board : Packet → Packet → Bool
some_board p q = both_meet boards_meet (board_of_packet p) (board_of_packet q)
