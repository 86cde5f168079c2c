-- The CVs of a locomotive decoder after a packet of the main track.
use Rattle.std.proofs.Common.{◌≡◌, ◌≢◌, ℕ, ◌-◌, ◌<◌, ◌≤◌, Bool, true, false, List, refl, sym, ◌∙◌, ap, subst, arith}
use Rattle.std.specs.Prelude.{Option, None, Some, ◌&&◌, ◌==◌, unwrap_or, option_map, if◌then◌else◌, length}
use Rattle.std.specs.Prelude.{slice_index, slice_set}
use Rattle.std.proofs.lemmas.Bool.Decides.{nat_tests, Decides-eqb}
use Rattle.std.proofs.lemmas.List.{get_or-set_same, get_or-set_other, length-set}
use Rattle.dcc_packet.specs.declared.address.Address.{Address}
use Rattle.dcc_packet.specs.declared.cv.CvNumber.{CvNumber}
use Rattle.dcc_packet.specs.declared.cv.BitPlace.{BitPlace}
use Rattle.dcc_packet.specs.declared.packet.Packet.{Packet}
use Rattle.dcc_packet.specs.Bits.{byte_of, is_one, with_bit}
use Rattle.dcc_packet.specs.Cvs.{cv_in, is_writable, written}
use Rattle.dcc_packet.proofs.BitLemmas.{byte_of_bits, either_by, is_one-byte_of, same_byte}
use Rattle.dcc_regs.specs.declared.register.Register.TheVariants.{CvBit, Pending as PendingRegister}
use Rattle.dcc_regs.specs.declared.register.Value.{Value}
use Rattle.dcc_regs.specs.declared.register.Value.TheVariants.{Speed as SpeedValue, Forward, Flag, Number}
use Rattle.dcc_regs.specs.declared.register.Value.TheVariants.{Pending as PendingValue}
use Rattle.dcc_regs.specs.declared.register.Who.TheVariants.{Loco as LocoWho}
use Rattle.dcc_regs.specs.Heard.{hears}
use Rattle.dcc_regs.specs.Loco.{change_fits, cv_held, holds_one, is_byte_write, is_cv_bit}
use Rattle.dcc_regs.specs.Possible.{IsPossible, may_hold}
use Rattle.dcc_regs.specs.Result.{RegisterMap, is_effective, step}
use Rattle.dcc_regs.specs.Setting.{value_over}
use Rattle.dcc_regs.specs.Writes.{CvChange, Byte, OneBit, bit_set, change_of}
use Rattle.dcc_regs.specs.Inner.WriteParts.{bit_by}
use Rattle.dcc_regs.proofs.RegisterStep.{step-sets}
use Rattle.dcc_regs.proofs.WritesInParts.{set_by_change}
use Rattle.dcc_track.specs.DecoderState.{cvs_after, cvs_changed}
use Rattle.dcc_track.specs.LocoDecoders.{cvs_held}
use Rattle.dcc_track.proofs.HeldCvs.{cv_in-held, held_is, length-held}

pub bit_there : (cv place : ℕ) → 1 ≤ cv → cv ≤ 1024 → place ≤ 7 → is_cv_bit cv place ≡ true
bit_there cv place a b h = grind (arith, nat_tests)

-- a register of a bit holds a flag
pub flag_held : (active : Option Address) (cv place : ℕ) (held : Option Value)
    → may_hold (LocoWho active) (CvBit cv place) held ≡ true → is_cv_bit cv place ≡ true
    → held ≡ Some (Flag (holds_one held))
flag_held active cv place (Some (Flag true)) ok there = refl
flag_held active cv place (Some (Flag false)) ok there = refl
flag_held active cv place None ok there = let contrary : false ≡ true = rw there at ok in absurd (cc)
flag_held active cv place (Some (SpeedValue speed)) ok there = absurd (cc)
flag_held active cv place (Some (Forward forward)) ok there = absurd (cc)
flag_held active cv place (Some (Number n)) ok there = absurd (cc)
flag_held active cv place (Some (PendingValue pending)) ok there = absurd (cc)

-- a bit after a change that takes effect if `h` and `e` are true
bit_over : (h e one : Bool) (set : Option Bool)
    → holds_one (if h then value_over (Some (Flag one)) (if e then option_map Flag set else None) else Some (Flag one))
    ≡ (if h && e then unwrap_or set one else one)
bit_over false e true set = refl
bit_over false e false set = refl
bit_over true false true set = refl
bit_over true false false set = refl
bit_over true true true None = refl
bit_over true true false None = refl
bit_over true true one (Some true) = refl
bit_over true true one (Some false) = refl

bit_after : (h e : Bool) (held : Option Value) (set : Option Bool) → held ≡ Some (Flag (holds_one held))
    → holds_one (if h then value_over held (if e then option_map Flag set else None) else held)
    ≡ (if h && e then unwrap_or set (holds_one held) else holds_one held)
bit_after h e (Some (Flag true)) set is = bit_over h e true set
bit_after h e (Some (Flag false)) set is = bit_over h e false set
bit_after h e None set is = absurd (cc)
bit_after h e (Some (SpeedValue speed)) set is = absurd (cc)
bit_after h e (Some (Forward forward)) set is = absurd (cc)
bit_after h e (Some (Number n)) set is = absurd (cc)
bit_after h e (Some (PendingValue pending)) set is = absurd (cc)

-- the byte of a CV after the change
abbrev byte_after : Bool → Option CvChange → RegisterMap → ℕ → ℕ
byte_after t change m n =
    byte_of (λ k. if t then unwrap_or (bit_by change n k) (holds_one (m (CvBit n k))) else holds_one (m (CvBit n k)))

-- the CVs after the change
abbrev cvs_by : Bool → Option CvChange → List ℕ → List ℕ
cvs_by t change cvs = if t then cvs_changed change cvs else cvs

length_written : (w : Bool) (cvs : List ℕ) (i value : ℕ)
    → length (if w then slice_set cvs i value else cvs) ≡ length cvs
length_written true cvs i value = length-set cvs i value
length_written false cvs i value = refl

length_by : (t : Bool) (change : Option CvChange) (cvs : List ℕ) → length (cvs_by t change cvs) ≡ length cvs
length_by false change cvs = refl
length_by true None cvs = refl
length_by true (Some (Byte cv value)) cvs = length_written (is_writable cv) cvs (cv.number - 1) value
length_by true (Some (OneBit cv bits one)) cvs =
    length_written (is_writable cv) cvs (cv.number - 1) (with_bit (cv_in cvs cv.number) bits.place one)

pub not_same : (n m : ℕ) → n ≢ m → (t : Bool) → (n == m) ≡ t → (n == m) ≡ false
not_same n m ne true e = absurd (ne ((Decides-eqb n m).0 e))
not_same n m ne false e = e

-- the byte of a CV if the packet sets the bits `set` of it
abbrev byte_set : (ℕ → Option Bool) → RegisterMap → ℕ → ℕ
byte_set set m n = byte_of (λ k. unwrap_or (set k) (holds_one (m (CvBit n k))))

unset : (set : ℕ → Option Bool) (m : RegisterMap) (n : ℕ) → ((k : ℕ) → set k ≡ None) → 1 ≤ n → n ≤ 1024
    → byte_set set m n ≡ cv_in (cvs_held m) n
unset set m n none low high =
    same_byte (λ k. unwrap_or (set k) (holds_one (m (CvBit n k)))) (λ k. holds_one (m (CvBit n k)))
    (λ k le. ap (λ (o : Option Bool). unwrap_or o (holds_one (m (CvBit n k)))) (none k))
    ∙ sym (cv_in-held m n low high)

written_at : (w : Bool) (m : RegisterMap) (cv : CvNumber) (value n : ℕ) (set : ℕ → Option Bool)
    → (n ≢ cv.number → (k : ℕ) → set k ≡ None) → (w ≡ false → (k : ℕ) → set k ≡ None)
    → (w ≡ true → n ≡ cv.number → byte_set set m n ≡ value) → 1 ≤ n → n ≤ 1024
    → byte_set set m n ≡ cv_in (if w then slice_set (cvs_held m) (cv.number - 1) value else cvs_held m) n
written_at false m cv value n set other kept put low high = unset set m n (kept refl) low high
written_at true m cv value n set other kept put low high =
    let count : length (cvs_held m) ≡ 1024 = length-held m in
    either_by n cv.number (n == cv.number) refl
    (λ same.
    let there : slice_index (slice_set (cvs_held m) (cv.number - 1) value) (cv.number - 1) ≡ value =
    get_or-set_same (cvs_held m) (cv.number - 1) value 0 (let in_range = cv.in_range in omega arith) in
    put refl same
    ∙ sym (subst (λ (k : ℕ). cv_in (slice_set (cvs_held m) (cv.number - 1) value) k ≡ value) (sym same) there))
    (λ ne.
    let apart : n - 1 ≢ cv.number - 1 = λ e. ne (let in_range = cv.in_range in omega arith) in
    unset set m n (other ne) low high
    ∙ sym (get_or-set_other (cvs_held m) (cv.number - 1) (n - 1) value 0 apart))

byte_unset : (t w one : Bool) → w ≡ false → (if t && w then Some one else None) ≡ None
byte_unset true false one e = refl
byte_unset false false one e = refl
byte_unset t true one e = absurd (cc)

bit_unset : (t k w one : Bool) → w ≡ false → (if t && k && w then Some one else None) ≡ None
bit_unset true true false one e = refl
bit_unset true false false one e = refl
bit_unset false k false one e = refl
bit_unset t k true one e = absurd (cc)

byte_of_cv : (m : RegisterMap) (cv : CvNumber) (value n : ℕ) → value < 256 → 1 ≤ n → n ≤ 1024
    → byte_set (bit_by (Some (Byte cv value)) n) m n ≡ cv_in (written (cvs_held m) cv value) n
byte_of_cv m cv value n small low high =
    written_at (is_writable cv) m cv value n (bit_by (Some (Byte cv value)) n)
    (λ ne k. rw (not_same n cv.number ne (n == cv.number) refl) refl)
    (λ e k. byte_unset (n == cv.number) (is_writable cv) (is_one value k) e)
    (λ e same.
    let here : (n == cv.number) ≡ true = (Decides-eqb n cv.number).1 same in
    same_byte (λ k. unwrap_or (bit_by (Some (Byte cv value)) n k) (holds_one (m (CvBit n k)))) (is_one value)
    (λ k le. rw (here, e) refl) ∙ byte_of_bits value small) low high

chosen : (k one old : Bool) → unwrap_or (if k && true then Some one else None) old ≡ (if k then one else old)
chosen true one old = refl
chosen false one old = refl

bit_of_cv : (m : RegisterMap) (cv : CvNumber) (bits : BitPlace) (one : Bool) (n : ℕ) → 1 ≤ n → n ≤ 1024
    → byte_set (bit_by (Some (OneBit cv bits one)) n) m n
    ≡ cv_in (written (cvs_held m) cv (with_bit (cv_in (cvs_held m) cv.number) bits.place one)) n
unfolding with_bit
bit_of_cv m cv bits one n low high =
    written_at (is_writable cv) m cv (with_bit (cv_in (cvs_held m) cv.number) bits.place one) n
    (bit_by (Some (OneBit cv bits one)) n)
    (λ ne k. rw (not_same n cv.number ne (n == cv.number) refl) refl)
    (λ e k. bit_unset (n == cv.number) (k == bits.place) (is_writable cv) one e)
    (λ e same.
    let here : (n == cv.number) ≡ true = (Decides-eqb n cv.number).1 same in
    let held : cv_in (cvs_held m) cv.number ≡ cv_held m n =
    subst (λ (k : ℕ). cv_in (cvs_held m) k ≡ cv_held m n) same (cv_in-held m n low high) in
    same_byte (λ k. unwrap_or (bit_by (Some (OneBit cv bits one)) n k) (holds_one (m (CvBit n k))))
    (λ k. if k == bits.place then one else is_one (cv_in (cvs_held m) cv.number) k)
    (λ k le.
    let old : is_one (cv_in (cvs_held m) cv.number) k ≡ holds_one (m (CvBit n k)) =
    rw held (is_one-byte_of (λ place. holds_one (m (CvBit n place))) k le) in
    rw (here, e, old) (chosen (k == bits.place) one (holds_one (m (CvBit n k)))))) low high

byte_by : (t : Bool) (change : Option CvChange) (m : RegisterMap) (n : ℕ) → change_fits change ≡ true → 1 ≤ n → n ≤ 1024
    → byte_after t change m n ≡ cv_in (cvs_by t change (cvs_held m)) n
byte_by false change m n fits low high = sym (cv_in-held m n low high)
byte_by true None m n fits low high = sym (cv_in-held m n low high)
byte_by true (Some (Byte cv value)) m n fits low high =
    byte_of_cv m cv value n (grind (arith, nat_tests)) low high
byte_by true (Some (OneBit cv bits one)) m n fits low high = bit_of_cv m cv bits one n low high

pub held_after : (active : Option Address) (m : RegisterMap) (p : Packet) → IsPossible (LocoWho active) m
    → is_byte_write p ≡ true → cvs_held (step (LocoWho active) m p) ≡ cvs_after (LocoWho active) m (cvs_held m) p
held_after active m p possible byte =
    let h : Bool = hears (LocoWho active) p in
    let e : Bool = is_effective (m PendingRegister) p in
    held_is (step (LocoWho active) m p) (cvs_by (h && e) (change_of p) (cvs_held m))
    (length_by (h && e) (change_of p) (cvs_held m) ∙ length-held m)
    (λ n low high.
    same_byte (λ k. holds_one (step (LocoWho active) m p (CvBit n k)))
    (λ k. if h && e then unwrap_or (bit_by (change_of p) n k) (holds_one (m (CvBit n k))) else holds_one
    (m (CvBit n k)))
    (λ k le.
    let is : m (CvBit n k) ≡ Some (Flag (holds_one (m (CvBit n k)))) =
    flag_held active n k (m (CvBit n k)) (possible.registers (CvBit n k)) (bit_there n k low high le) in
    ap holds_one (step-sets (LocoWho active) m p (CvBit n k))
    ∙ bit_after h e (m (CvBit n k)) (bit_set p n k) is
    ∙ ap
    (λ (set : Option Bool). if h && e then unwrap_or set (holds_one (m (CvBit n k))) else holds_one (m (CvBit n k)))
    (set_by_change p n k))
    ∙ byte_by (h && e) (change_of p) m n byte low high)
