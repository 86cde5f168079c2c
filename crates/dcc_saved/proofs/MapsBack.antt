-- A map that is possible is that of what its lines say.
use Rattle.std.proofs.Common.{◌≡◌, ℕ, Bool, true, false, not, nat_le, Option, None, Some, if◌then◌else◌, refl}
use Rattle.std.proofs.Common.{sym, ap, ◌∙◌, arith, zero, suc, ◌≤◌, ◌<◌, ◌&&◌, eqb, get_or}
use Rattle.std.proofs.lemmas.Bool.{and_parts, leb-true}
use Rattle.dcc_packet.specs.declared.address.Address.{Address}
use Rattle.dcc_packet.specs.Bits.{is_one}
use Rattle.dcc_packet.specs.Cvs.{cv_in}
use Rattle.dcc_packet.specs.declared.accessory.Board.{Board}
use Rattle.dcc_packet.specs.declared.fields.Bit.{Bit}
use Rattle.dcc_packet.proofs.BitLemmas.{is_one-byte_of}
use Rattle.dcc_regs.specs.declared.loco_state.LocoState.{LocoState}
use Rattle.dcc_regs.specs.declared.register.Value.{Value}
use Rattle.dcc_regs.specs.declared.board_state.BoardState.{BoardState}
use Rattle.dcc_regs.specs.declared.register.Register.TheVariants as registers
use Rattle.dcc_regs.specs.declared.register.Value.TheVariants as values
use Rattle.dcc_regs.specs.declared.register.Who.TheVariants as who
use Rattle.dcc_regs.specs.Loco.{is_function, is_cv_bit, is_speed, is_pending_for, holds_one, cv_held, loco_registers}
use Rattle.dcc_regs.specs.States.{is_binary_state}
use Rattle.dcc_regs.specs.LocoState.{loco_state_content}
use Rattle.dcc_regs.specs.Possible.{may_hold, IsPossible}
use Rattle.dcc_regs.specs.Result.{RegisterMap}
use Rattle.dcc_regs.specs.Board.{board_registers}
use Rattle.dcc_regs.specs.BoardState.{board_state_content}
use Rattle.dcc_saved.specs.declared.decoder_line.Head.{Head}
use Rattle.dcc_saved.specs.declared.decoder_line.Numbered.TheVariants as kinds
use Rattle.dcc_saved.specs.FleetText.{speed_held, forward_held, pending_held, number_held, numbers_held, first_four}
use Rattle.dcc_saved.specs.DecoderLines.{listed}
use Rattle.dcc_saved.specs.DecoderText.{board_read}
use Rattle.dcc_saved.specs.ReadBack.{SameRegisters}
use Rattle.dcc_saved.proofs.CvsBack.{ReadsCvs}
use Rattle.dcc_saved.proofs.NumbersBack.{held_are}

-- what a register may hold that is a flag if it is there, and one that never is
abbrev may_be_flag : Bool → Option Value → Bool
may_be_flag there None = not there
may_be_flag there (Some (values.Flag on)) = there
may_be_flag there (Some other) = false

abbrev may_be_none : Option Value → Bool
may_be_none None = true
may_be_none (Some x) = false

-- it holds what was read for it
flag_is : (there one : Bool) {v : Option Value} → may_be_flag there v ≡ true → (there ≡ true → one ≡ holds_one v)
    → (if there then Some (values.Flag one) else None) ≡ v
flag_is true one {v = Some (values.Flag true)} h same = ap (λ (b : Bool). Some (values.Flag b)) (same refl)
flag_is true one {v = Some (values.Flag false)} h same = ap (λ (b : Bool). Some (values.Flag b)) (same refl)
flag_is false one {v = None} h same = refl
flag_is false one {v = Some (values.Flag on)} h same = cc
flag_is there one h same = cc

none_is : {v : Option Value} → may_be_none v ≡ true → None ≡ v
none_is {v = None} h = refl
none_is {v = Some x} h = cc

-- what a register may hold that is a number up to this one if it is there
abbrev may_be_number : Bool → ℕ → Option Value → Bool
may_be_number there most None = not there
may_be_number there most (Some (values.Number k)) = there && nat_le k most
may_be_number there most (Some other) = false

number_is : (there : Bool) (most : ℕ) {v : Option Value} → may_be_number there most v ≡ true
    → (number_held v ≤ most)
    × ((k : ℕ) → (there ≡ true → k ≡ number_held v) → (if there then Some (values.Number k) else None) ≡ v)
number_is true most {v = Some (values.Number n)} h =
    (leb-true n most h, λ k same. ap (λ j. Some (values.Number j)) (same refl))
number_is false most {v = None} h = (omega arith, λ k same. refl)
number_is false most {v = Some (values.Number n)} h = cc
number_is there most h = cc

pub speed_is : (active : Option Address) {v : Option Value} → may_hold (who.Loco active) registers.Speed v ≡ true
    → (Some (values.Speed (speed_held v)) ≡ v) × (is_speed (speed_held v) ≡ true)
speed_is active {v = Some (values.Speed s)} h = (refl, h)
speed_is active h = cc

direction_is : (active : Option Address) {v : Option Value} → may_hold (who.Loco active) registers.Direction v ≡ true
    → Some (values.Forward (forward_held v)) ≡ v
direction_is active {v = Some (values.Forward s)} h = refl
direction_is active h = cc

pub pending_is : (active : Option Address) {v : Option Value} → may_hold (who.Loco active) registers.Pending v ≡ true
    → (Some (values.Pending (pending_held v)) ≡ v) × (is_pending_for active (pending_held v) ≡ true)
pending_is active {v = Some (values.Pending s)} h = (refl, h)
pending_is active h = cc

-- there is no state 0
pub no_state_0 : (address : Option Address) (m : RegisterMap) → IsPossible (who.Loco address) m
    → holds_one (m (registers.State 0)) ≡ false
no_state_0 address m possible =
    ap holds_one (sym (flag_is false false (possible.registers (registers.State 0)) (λ there. cc)))

module _ (address : Option Address) (m : RegisterMap) (possible : IsPossible (who.Loco address) m) {head : Head}
    (cvs : ReadsCvs (cv_held m) head) where
  -- what a locomotive decoder's lines save
  abbrev pub loco_state : LocoState
  loco_state = record {
    address = address;
    speed = speed_held (m registers.Speed);
    forward = forward_held (m registers.Direction);
    functions = numbers_held kinds.Function m;
    states = numbers_held kinds.State m;
    pending = pending_held (m registers.Pending);
    cvs = cvs.given;
  }

  same_cv_bit : (cv place : ℕ) → is_cv_bit cv place ≡ true
      → is_one (cv_in cvs.given cv) place ≡ holds_one (m (registers.CvBit cv place))
  same_cv_bit cv place there =
      let parts = and_parts (nat_le 1 cv && nat_le cv 1024) (nat_le place 7) there in
      let range = and_parts (nat_le 1 cv) (nat_le cv 1024) parts.0 in
      ap (λ n. is_one n place) (cvs.each cv (leb-true 1 cv range.0) (leb-true cv 1024 range.1))
      ∙ is_one-byte_of (λ k. holds_one (m (registers.CvBit cv k))) place (leb-true place 7 parts.1)

  pub same_loco : SameRegisters (loco_registers (loco_state_content loco_state)) m
  same_loco registers.Speed = (speed_is address (possible.registers registers.Speed)).0
  same_loco registers.Direction = direction_is address (possible.registers registers.Direction)
  same_loco registers.Pending = (pending_is address (possible.registers registers.Pending)).0
  same_loco (registers.Function n) =
      flag_is (is_function n) _ (possible.registers (registers.Function n))
      (λ there. held_are kinds.Function m n (omega (arith, leb-true n 68 there)))
  same_loco (registers.State n) =
      flag_is (is_binary_state n) _ (possible.registers (registers.State n))
      (λ there. held_are kinds.State m n
      (omega (arith, leb-true n 127 (and_parts (nat_le 1 n) (nat_le n 127) there).1)))
  same_loco (registers.CvBit cv place) =
      flag_is _ _ (possible.registers (registers.CvBit cv place)) (same_cv_bit cv place)
  same_loco (registers.Out n) = none_is (possible.registers (registers.Out n))
  same_loco (registers.Position n) = none_is (possible.registers (registers.Position n))
  same_loco (registers.Aspect n) = none_is (possible.registers (registers.Aspect n))

-- the first four of a row
four_at : {A : Type 0} (f : ℕ → A) (n : ℕ) (d : A) → nat_le n 3 ≡ true → get_or (listed (first_four f)) n d ≡ f n
four_at f zero d h = refl
four_at f (suc zero) d h = refl
four_at f (suc (suc zero)) d h = refl
four_at f (suc (suc (suc zero))) d h = refl
four_at f (suc (suc (suc (suc n)))) d h = absurd (omega (arith, leb-true (suc (suc (suc (suc n)))) 3 h))

-- the sides and aspects that the lines say
abbrev pub positions_of : RegisterMap → ℕ → ℕ
positions_of m n = number_held (m (registers.Position n))

abbrev pub sides_of : RegisterMap → ℕ → Bit
sides_of m n = record { one = eqb (positions_of m n) 1 }

abbrev pub aspects_of : RegisterMap → ℕ → ℕ
aspects_of m n = number_held (m (registers.Aspect n))

-- a side as a number
side_is : (k : ℕ) → k ≤ 1 → (if eqb k 1 then 1 else 0) ≡ k
side_is zero h = refl
side_is (suc zero) h = refl
side_is (suc (suc k)) h = absurd (omega (arith, h))

module _ (board : Board) (m : RegisterMap) (possible : IsPossible (who.Board board) m) where
  side_at : (n : ℕ) → (if (sides_of m n).one then 1 else 0) ≡ positions_of m n
  side_at n =
      side_is (positions_of m n)
      (number_is (nat_le n 3) 1 {v = m (registers.Position n)} (possible.registers (registers.Position n))).0

  pub aspects_small : (n : ℕ) → aspects_of m n < 256
  aspects_small n =
      let held = number_is (nat_le n 3) 255 {v = m (registers.Aspect n)} (possible.registers (registers.Aspect n)) in
      omega (arith, held.0)

  abbrev pub board_state : BoardState
  board_state = board_read board (numbers_held kinds.Out m) (first_four (sides_of m)) (first_four (aspects_of m))

  pub same_board : SameRegisters (board_registers (board_state_content board_state)) m
  same_board (registers.Out n) =
      flag_is (nat_le n 7) _ (possible.registers (registers.Out n))
      (λ there. held_are kinds.Out m n (omega (arith, leb-true n 7 there)))
  same_board (registers.Position n) =
      (number_is (nat_le n 3) 1 (possible.registers (registers.Position n))).1 _
      (λ there. rw (four_at (λ k. (sides_of m k).one) n false there) (side_at n))
  same_board (registers.Aspect n) =
      (number_is (nat_le n 3) 255 (possible.registers (registers.Aspect n))).1 _ (four_at (aspects_of m) n 0)
  same_board registers.Speed = none_is (possible.registers registers.Speed)
  same_board registers.Direction = none_is (possible.registers registers.Direction)
  same_board registers.Pending = none_is (possible.registers registers.Pending)
  same_board (registers.Function n) = none_is (possible.registers (registers.Function n))
  same_board (registers.State n) = none_is (possible.registers (registers.State n))
  same_board (registers.CvBit cv place) = none_is (possible.registers (registers.CvBit cv place))
