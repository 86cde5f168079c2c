-- What one packet does to an accessory decoder.
use Rattle.std.proofs.Common.{◌≡◌, ℕ, ◌<◌, ◌≤◌, Bool, true, false, [], ◌∷◌, refl, sym, ◌∙◌, arith}
use Rattle.std.specs.Prelude.{if◌then◌else◌, nat_le}
use Rattle.std.proofs.lemmas.Bool.Decides.{nat_tests}
use mathlib.Core.Path.{fun_ext}
use Rattle.dcc_packet.specs.declared.packet.Packet.{Packet}
use Rattle.dcc_regs.specs.declared.register.Who.{Who}
use Rattle.dcc_packet.specs.declared.accessory.Board.{Board as OwnBoard}
use Rattle.dcc_regs.specs.declared.register.Who.TheVariants.{Board as BoardWho}
use Rattle.dcc_regs.specs.declared.register.SpeedMode.TheVariants.{Steps14}
use Rattle.dcc_regs.specs.declared.register.Register.{Register}
use Rattle.dcc_regs.specs.declared.register.Register.TheVariants.{Out, Position, Aspect}
use Rattle.dcc_regs.specs.declared.register.Value.TheVariants.{Flag, Number}
use Rattle.dcc_regs.specs.Heard.{hears}
use Rattle.dcc_regs.specs.Outputs.{out_set, position_set, aspect_set, side}
use Rattle.dcc_regs.specs.Result.{result_of_heard, step}
use Rattle.dcc_regs.specs.Board.{BoardContent, TakesPacket, board_registers}
use Rattle.dcc_regs.specs.Possible.{IsPossible, may_hold}
use Rattle.dcc_regs.proofs.PossibleLemmas.{held_by}
use Rattle.dcc_regs.proofs.LocoStep.{set_there, by_table}

there : (n last : ℕ) → nat_le n last ≡ true → n ≤ last
there n last t = grind (arith, nat_tests)

at_register : (p : Packet) (d d' : BoardContent) → TakesPacket p d d' → (r : Register)
    → board_registers d' r ≡ result_of_heard (board_registers d) (p ∷ []) r
at_register p d d' o (Out n) =
    set_there Flag (nat_le n 7) (out_set p n) (d'.outs n) (d.outs n) (λ t. o.outs n (there n 7 t))
    ∙ by_table Steps14 p (Out n) (board_registers d (Out n))
at_register p d d' o (Position n) =
    set_there side (nat_le n 3) (position_set p n) (d'.positions n) (d.positions n) (λ t. o.positions n (there n 3 t))
    ∙ by_table Steps14 p (Position n) (board_registers d (Position n))
at_register p d d' o (Aspect n) =
    set_there Number (nat_le n 3) (aspect_set p n) (d'.aspects n) (d.aspects n) (λ t. o.aspects n (there n 3 t))
    ∙ by_table Steps14 p (Aspect n) (board_registers d (Aspect n))
at_register p d d' o r = refl

pub step-heard : (who : Who) (p : Packet) (d d' : BoardContent) → hears who p ≡ true → TakesPacket p d d'
    → board_registers d' ≡ step who (board_registers d) p
step-heard who p d d' h o =
    rw h (fun_ext (at_register p d d' o))

-- whatever answered that the decoder hears it
pub packet_taken : (who : Who) (p : Packet) (d d' : BoardContent) (is_heard : Bool) → is_heard ≡ hears who p
    → is_heard ≡ true → TakesPacket p d d' → board_registers d' ≡ step who (board_registers d) p
packet_taken who p d d' is_heard e is o = step-heard who p d d' (sym e ∙ is) o

byte : (n : ℕ) → n < 256 → nat_le n 255 ≡ true
byte n h = grind (arith, nat_tests)

side_small : (one : Bool) → nat_le (if one then 1 else 0) 1 ≡ true
side_small true = refl
side_small false = refl

held : (own : OwnBoard) (d : BoardContent) → ((n : ℕ) → d.aspects n < 256) → (r : Register)
    → may_hold (BoardWho own) r (board_registers d r) ≡ true
held own d bytes (Out n) =
    held_by (may_hold (BoardWho own) (Out n)) (Flag (d.outs n)) (nat_le n 7) (λ e. e) (λ e. rw e refl)
held own d bytes (Position n) =
    held_by (may_hold (BoardWho own) (Position n)) (side (d.positions n)) (nat_le n 3)
    (λ e. rw (e, side_small (d.positions n)) refl) (λ e. rw e refl)
held own d bytes (Aspect n) =
    held_by (may_hold (BoardWho own) (Aspect n)) (Number (d.aspects n)) (nat_le n 3)
    (λ e. rw (e, byte (d.aspects n) (bytes n)) refl) (λ e. rw e refl)
held own d bytes r = refl

pub possible : (own : OwnBoard) (d : BoardContent) → nat_le own.number 510 ≡ true → ((n : ℕ) → d.aspects n < 256)
    → IsPossible (BoardWho own) (board_registers d)
possible own d board bytes = record { decoder = board; registers = held own d bytes }
