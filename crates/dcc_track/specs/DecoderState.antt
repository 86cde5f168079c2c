-- The state of a decoder with CVs, and what a packet, a new list of CVs and a power-up do to it
-- (NMRA S-9.2.2; RCN-214).
use Rattle.std.specs.Prelude.{◌≡◌, ◌≢◌, ℕ, ◌+◌, ◌*◌, ◌%◌, ◌&&◌, Option, None, Some, IfSome, IfNone, List}
use Rattle.std.specs.Prelude.{if◌then◌else◌, unwrap_or}
use Rattle.std.specs.Result.{result_ok}
use Rattle.dcc_packet.specs.declared.accessory.Board.{Board}
use Rattle.dcc_packet.specs.declared.cv.CvNumber.{CvNumber}
use Rattle.dcc_packet.specs.declared.packet.Packet.{Packet}
use Rattle.dcc_packet.specs.Bits.{with_bit}
use Rattle.dcc_packet.specs.Cvs.{IsCvs, cv_in, written}
use Rattle.dcc_regs.specs.declared.register.Register.TheVariants.{CvBit, Pending as PendingRegister}
use Rattle.dcc_regs.specs.declared.register.Who.{Who}
use Rattle.dcc_regs.specs.declared.register.Who.TheVariants.{Loco as LocoWho, Board as BoardWho}
use Rattle.dcc_packet.specs.Values.{board_of}
use Rattle.dcc_regs.specs.Board.{board_powered_up}
use Rattle.dcc_regs.specs.Heard.{hears}
use Rattle.dcc_regs.specs.Loco.{powered_up, start_map, start_who}
use Rattle.dcc_regs.specs.Result.{RegisterMap, is_effective, step}
use Rattle.dcc_regs.specs.Writes.{CvChange, Byte, OneBit, change_of}

-- the state of a decoder: its kind with its active address, its registers, and its CVs from CV1 to
-- CV1024
pub record DecoderState : Type 0 where
  pub who : Who
  pub registers : RegisterMap
  pub cvs : List ℕ

-- the CVs `cvs` after a change of one CV or of one bit. CV7 and CV8 never change.
abbrev pub cvs_changed : Option CvChange → List ℕ → List ℕ
cvs_changed None cvs = cvs
cvs_changed (Some (Byte cv value)) cvs = written cvs cv value
cvs_changed (Some (OneBit cv bits one)) cvs = written cvs cv (with_bit (cv_in cvs cv.number) bits.place one)

-- the CVs of decoder `who` after packet `p` of the main track. The decoder has the registers `m` and
-- the CVs `cvs` before `p`. A locomotive decoder executes a CV write that takes effect. No packet
-- changes a CV of an accessory decoder.
abbrev pub cvs_after : Who → RegisterMap → List ℕ → Packet → List ℕ
cvs_after (LocoWho active) m cvs p =
    if hears (LocoWho active) p && is_effective (m PendingRegister) p then cvs_changed (change_of p) cvs else cvs
cvs_after (BoardWho own) m cvs p = cvs

-- the state of decoder `d` after packet `p` of the main track
abbrev pub after_packet : DecoderState → Packet → DecoderState
after_packet d p = record {
  who = d.who;
  registers = step d.who d.registers p;
  cvs = cvs_after d.who d.registers d.cvs p;
}

-- the registers of decoder `who` after its CVs have become `cvs`. The registers were `m` before. The
-- bits of the CVs are registers of a locomotive decoder, and no registers of an accessory decoder.
abbrev pub registers_with_cvs : Who → RegisterMap → List ℕ → RegisterMap
registers_with_cvs (LocoWho active) m cvs (CvBit cv place) = start_map (cv_in cvs) (CvBit cv place)
registers_with_cvs who m cvs r = m r

-- the state of decoder `d` after its CVs have become `cvs`. The active address does not change.
abbrev pub with_new_cvs : DecoderState → List ℕ → DecoderState
with_new_cvs d cvs = record { who = d.who; registers = registers_with_cvs d.who d.registers cvs; cvs = cvs }

-- the address of an accessory decoder with the CVs `cvs` after power-up: the lower six bits of CV1,
-- and the lower three bits of CV9 above them. Each such number is an address.
abbrev pub board_in_cvs : List ℕ → Option Board
board_in_cvs cvs = result_ok (board_of (cv_in cvs 9 % 8 * 64 + cv_in cvs 1 % 64))

-- the kind and the active address that decoder `who` with the CVs `cvs` has after power-up
abbrev pub who_after_power_up : Who → List ℕ → Who
who_after_power_up (LocoWho active) cvs = start_who (cv_in cvs)
who_after_power_up (BoardWho own) cvs = BoardWho (unwrap_or (board_in_cvs cvs) own)

-- the registers of decoder `who` after power-up. The registers were `m` before. The outputs of an
-- accessory decoder are off, and its positions and aspects do not change.
abbrev pub registers_after_power_up : Who → RegisterMap → RegisterMap
registers_after_power_up (LocoWho active) m = powered_up m
registers_after_power_up (BoardWho own) m = board_powered_up m

-- the state of decoder `d` after power-up. The CVs do not change.
abbrev pub after_power_up : DecoderState → DecoderState
after_power_up d = record {
  who = who_after_power_up d.who d.cvs;
  registers = registers_after_power_up d.who d.registers;
  cvs = d.cvs;
}

-- the CV `changed` has different values in the CVs `before` and `after`, and each other CV has one
-- value. If `changed` is `None`, no CV changed.
pub record HasChanged (before after : List ℕ) (changed : Option CvNumber) : Type 0 where
  pub apart : IfSome changed (λ cv. cv_in after cv.number ≢ cv_in before cv.number)
  pub others : IfSome changed (λ cv. (other : CvNumber) → other.number ≢ cv.number
      → cv_in after other.number ≡ cv_in before other.number)
  pub none : IfNone changed (after ≡ before)

-- The decoder `d` has 1,024 CVs, which are bytes. A locomotive decoder holds its CVs in its
-- registers.
pub record HasCvs (d : DecoderState) : Type 0 where
  pub bytes : IsCvs d.cvs
  pub held : with_new_cvs d d.cvs ≡ d
