-- Theorems on the safety of locomotives and of their CVs. The theorems are about packets on the
-- main track, with no power-up between the packets.
use Rattle.std.specs.Prelude.{◌≡◌, ◌≢◌, ℕ, Bool, true, false, not, ◌&&◌, ◌||◌, Option, None, Some, is_some}
use Rattle.std.specs.Prelude.{List, [], ◌∷◌, ◌++◌}
use Rattle.std.specs.List.{list_any}
use Rattle.std.specs.Option.{option_map_or}
use Rattle.dcc_packet.specs.declared.address.Address.TheVariants.{Broadcast}
use Rattle.dcc_packet.specs.declared.instruction.What.TheVariants.{Speed28, Speed128}
use Rattle.dcc_packet.specs.declared.packet.Packet.{Packet}
use Rattle.dcc_packet.specs.declared.packet.Packet.TheVariants.{Loco as ToLoco}
use Rattle.dcc_packet.specs.Cvs.{is_read_only}
use Rattle.dcc_regs.specs.declared.register.Who.{Who}
use Rattle.dcc_regs.specs.declared.register.Speed.{Speed}
use Rattle.dcc_regs.specs.declared.register.Speed.TheVariants.{Stop, Emergency}
use Rattle.dcc_regs.specs.declared.register.SpeedMode.TheVariants.{Steps14, Steps28}
use Rattle.dcc_regs.specs.declared.register.Register.TheVariants.{Speed as SpeedRegister, CvBit}
use Rattle.dcc_regs.specs.declared.register.Register.TheVariants.{Pending as PendingRegister}
use Rattle.dcc_regs.specs.declared.register.Value.{Value}
use Rattle.dcc_regs.specs.declared.register.Value.TheVariants.{Speed as SpeedValue, Flag}
use Rattle.dcc_regs.specs.declared.register.Value.TheVariants.{Pending as PendingValue}
use Rattle.dcc_regs.specs.Heard.{hears, heard}
use Rattle.dcc_regs.specs.Speeds.{speed_set}
use Rattle.dcc_regs.specs.Writes.{is_own_write, bit_set}
use Rattle.dcc_regs.specs.Result.{RegisterMap, result}

-- true for a stop, ordinary or emergency
abbrev pub is_stop : Speed → Bool
is_stop Stop = true
is_stop Emergency = true
is_stop speed = false

-- true if the value of a speed register is a stop
abbrev pub is_standing : Option Value → Bool
is_standing (Some (SpeedValue speed)) = is_stop speed
is_standing held = false

-- true if packet `p` sets the speed to a stop in both speed modes
abbrev pub is_stop_packet : Packet → Bool
is_stop_packet p =
    option_map_or is_stop (speed_set Steps14 p) false && option_map_or is_stop (speed_set Steps28 p) false

-- true if packet `p` sets the speed to a step, and not to a stop, in at least one of the two speed
-- modes
abbrev pub can_move : Packet → Bool
can_move p =
    option_map_or (λ speed. not (is_stop speed)) (speed_set Steps14 p) false
    || option_map_or (λ speed. not (is_stop speed)) (speed_set Steps28 p) false

-- true for each speed packet to a short or long address, and for each speed packet of 128 steps to
-- all locomotives
abbrev pub can_have_step : Packet → Bool
can_have_step (ToLoco Broadcast (Speed28 forward bits)) = false
can_have_step (ToLoco to (Speed28 forward bits)) = true
can_have_step (ToLoco to (Speed128 forward bits)) = true
can_have_step p = false

-- let the speed in the registers `start` be a stop. If the decoder hears no packet of `packets`
-- that sets the speed to a step, the speed is a stop after `packets`.
abbrev pub StandingLocoStands : Type 0
StandingLocoStands =
    (who : Who) (start : RegisterMap) (packets : List Packet) → list_any can_move (heard who packets) ≡ false
    → is_standing (start SpeedRegister) ≡ true → is_standing (result who start packets SpeedRegister) ≡ true

-- let the speed in the registers `start` be a stop. Let the decoder hear in `packets` no speed
-- packet to its own address and no speed packet of 128 steps to all locomotives. Then the speed is
-- a stop after `packets`.
abbrev pub OnlySpeedPacketsMove : Type 0
OnlySpeedPacketsMove =
    (who : Who) (start : RegisterMap) (packets : List Packet) → list_any can_have_step (heard who packets) ≡ false
    → is_standing (start SpeedRegister) ≡ true → is_standing (result who start packets SpeedRegister) ≡ true

-- let a decoder get the packets `before`, the heard packet `stop` and the packets `later`. If no
-- heard packet of `later` sets the speed to a step, the speed of the locomotive is a stop at the
-- end.
abbrev pub LastStopStops : Type 0
LastStopStops =
    (who : Who) (start : RegisterMap) (before : List Packet) (stop : Packet) (later : List Packet)
    → is_some (start SpeedRegister) ≡ true → hears who stop ≡ true → is_stop_packet stop ≡ true
    → list_any can_move (heard who later) ≡ false
    → is_standing (result who start (before ++ stop ∷ later) SpeedRegister) ≡ true

-- `write` sets bit k of CV n to the value that this bit has after `packets`. The write is sent to the
-- decoder's own address, and the decoder hears it while an equal write is pending
pub record SetByWrite (who : Who) (start : RegisterMap) (packets : List Packet) (n k : ℕ) : Type 0 where
  pub before : List Packet
  pub write : Packet
  pub later : List Packet
  pub parts : packets ≡ before ++ write ∷ later
  pub is_heard : hears who write ≡ true
  pub is_own : is_own_write write ≡ true
  pub pending : result who start before PendingRegister ≡ Some (PendingValue (Some write))
  pub value : Bool
  pub sets : bit_set write n k ≡ Some value
  pub now : result who start packets (CvBit n k) ≡ Some (Flag value)

-- two copies of `write` set bit k of CV n to the value that this bit has after `packets`. The write
-- is sent to the decoder's own address, and the decoder hears no packet between the copies
pub record SetByTwoCopies (who : Who) (start : RegisterMap) (packets : List Packet) (n k : ℕ) : Type 0 where
  pub before : List Packet
  pub write : Packet
  pub between : List Packet
  pub later : List Packet
  pub parts : packets ≡ before ++ write ∷ between ++ write ∷ later
  pub is_heard : hears who write ≡ true
  pub is_own : is_own_write write ≡ true
  pub none_between : heard who between ≡ []
  pub value : Bool
  pub sets : bit_set write n k ≡ Some value
  pub now : result who start packets (CvBit n k) ≡ Some (Flag value)

-- if `packets` change bit k of CV n, they contain a heard own write that sets this bit while an
-- equal write is pending
abbrev pub CvsChangeByWrites : Type 0
CvsChangeByWrites =
    (who : Who) (start : RegisterMap) (packets : List Packet) (n k : ℕ)
    → result who start packets (CvBit n k) ≢ start (CvBit n k) → SetByWrite who start packets n k

-- let no write be pending in the registers `start`, and let `packets` change bit k of CV n. Then
-- `packets` contain two heard copies of an own write that set this bit.
abbrev pub CvsChangeByTwoCopies : Type 0
CvsChangeByTwoCopies =
    (who : Who) (start : RegisterMap) (packets : List Packet) (n k : ℕ)
    → start PendingRegister ≡ Some (PendingValue None)
    → result who start packets (CvBit n k) ≢ start (CvBit n k) → SetByTwoCopies who start packets n k

-- if the decoder hears no write to its own address among `packets`, bit k of CV n does not change
abbrev pub CvsStayWithoutWrites : Type 0
CvsStayWithoutWrites =
    (who : Who) (start : RegisterMap) (packets : List Packet) (n k : ℕ)
    → list_any is_own_write (heard who packets) ≡ false
    → result who start packets (CvBit n k) ≡ start (CvBit n k)

-- no list of packets changes bit k of CV n if n is 7 or 8
abbrev pub ReadOnlyCvsStay : Type 0
ReadOnlyCvsStay =
    (who : Who) (start : RegisterMap) (packets : List Packet) (n k : ℕ) → is_read_only n ≡ true
    → result who start packets (CvBit n k) ≡ start (CvBit n k)
