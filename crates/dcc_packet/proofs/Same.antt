-- Two checked values with the same number are one value.
use Rattle.std.proofs.Common.{◌≡◌, ℕ, ◌≤◌, Bool, true, false, List, subst, arith, refl}
use Rattle.std.proofs.Props.{props}
use Rattle.dcc_wire.specs.Frames.{IsFrame}
use Rattle.dcc_packet.specs.declared.address.ShortAddress.{ShortAddress}
use Rattle.dcc_packet.specs.declared.address.LongAddress.{LongAddress}
use Rattle.dcc_packet.specs.declared.accessory.Board.{Board}
use Rattle.dcc_packet.specs.declared.accessory.Output.{Output}
use Rattle.dcc_packet.specs.declared.accessory.SignalAddress.{SignalAddress}
use Rattle.dcc_packet.specs.declared.cv.CvNumber.{CvNumber}
use Rattle.dcc_packet.specs.declared.cv.BitPlace.{BitPlace}
use Rattle.dcc_packet.specs.declared.speed.SpeedBits28.{SpeedBits28}
use Rattle.dcc_packet.specs.declared.speed.SpeedBits128.{SpeedBits128}
use Rattle.dcc_packet.specs.declared.functions.Group.{Group}
use Rattle.dcc_packet.specs.declared.functions.GroupBits.{GroupBits}
use Rattle.dcc_packet.specs.declared.state.StateNumber.{StateNumber}
use Rattle.dcc_packet.specs.declared.packet.OtherFrame.{OtherFrame}
use Rattle.dcc_packet.specs.Group.{group_max}
use Rattle.dcc_packet.specs.Rows.{bit, HasRow}

pub same_bit : (a b : Bool) → bit a ≡ bit b → a ≡ b
same_bit true true e = refl
same_bit false false e = refl
same_bit true false e = absurd (omega arith)
same_bit false true e = absurd (omega arith)

pub bit_below : (b : Bool) → bit b ≤ 1
bit_below true = omega arith
bit_below false = omega arith

pub same_short : (a b : ShortAddress) → a.number ≡ b.number → a ≡ b
same_short a b e =
    let one : (n : ℕ) → IsProp ((1 ≤ n) × (n ≤ 127)) = λ n. hlevel props in
    let P : ℕ → Type 0 = λ n. (h : (1 ≤ n) × (n ≤ 127)) → a ≡ record { number = n; in_range = h } in
    subst P e (λ h i. record { number = a.number; in_range = one a.number a.in_range h i }) b.in_range

pub same_long : (a b : LongAddress) → a.number ≡ b.number → a ≡ b
same_long a b e =
    let one : (n : ℕ) → IsProp (n ≤ 10239) = λ n. hlevel props in
    let P : ℕ → Type 0 = λ n. (h : n ≤ 10239) → a ≡ record { number = n; in_range = h } in
    subst P e (λ h i. record { number = a.number; in_range = one a.number a.in_range h i }) b.in_range

pub same_board : (a b : Board) → a.number ≡ b.number → a ≡ b
same_board a b e =
    let one : (n : ℕ) → IsProp (n ≤ 511) = λ n. hlevel props in
    let P : ℕ → Type 0 = λ n. (h : n ≤ 511) → a ≡ record { number = n; in_range = h } in
    subst P e (λ h i. record { number = a.number; in_range = one a.number a.in_range h i }) b.in_range

pub same_output : (a b : Output) → a.number ≡ b.number → a ≡ b
same_output a b e =
    let one : (n : ℕ) → IsProp (n ≤ 7) = λ n. hlevel props in
    let P : ℕ → Type 0 = λ n. (h : n ≤ 7) → a ≡ record { number = n; in_range = h } in
    subst P e (λ h i. record { number = a.number; in_range = one a.number a.in_range h i }) b.in_range

pub same_signal : (a b : SignalAddress) → a.number ≡ b.number → a ≡ b
same_signal a b e =
    let one : (n : ℕ) → IsProp (n ≤ 2047) = λ n. hlevel props in
    let P : ℕ → Type 0 = λ n. (h : n ≤ 2047) → a ≡ record { number = n; in_range = h } in
    subst P e (λ h i. record { number = a.number; in_range = one a.number a.in_range h i }) b.in_range

pub same_cv : (a b : CvNumber) → a.number ≡ b.number → a ≡ b
same_cv a b e =
    let one : (n : ℕ) → IsProp ((1 ≤ n) × (n ≤ 1024)) = λ n. hlevel props in
    let P : ℕ → Type 0 = λ n. (h : (1 ≤ n) × (n ≤ 1024)) → a ≡ record { number = n; in_range = h } in
    subst P e (λ h i. record { number = a.number; in_range = one a.number a.in_range h i }) b.in_range

pub same_place : (a b : BitPlace) → a.place ≡ b.place → a ≡ b
same_place a b e =
    let one : (n : ℕ) → IsProp (n ≤ 7) = λ n. hlevel props in
    let P : ℕ → Type 0 = λ n. (h : n ≤ 7) → a ≡ record { place = n; in_range = h } in
    subst P e (λ h i. record { place = a.place; in_range = one a.place a.in_range h i }) b.in_range

pub same_speed28 : (a b : SpeedBits28) → a.bits ≡ b.bits → a ≡ b
same_speed28 a b e =
    let one : (n : ℕ) → IsProp (n ≤ 31) = λ n. hlevel props in
    let P : ℕ → Type 0 = λ n. (h : n ≤ 31) → a ≡ record { bits = n; in_range = h } in
    subst P e (λ h i. record { bits = a.bits; in_range = one a.bits a.in_range h i }) b.in_range

pub same_speed128 : (a b : SpeedBits128) → a.bits ≡ b.bits → a ≡ b
same_speed128 a b e =
    let one : (n : ℕ) → IsProp (n ≤ 127) = λ n. hlevel props in
    let P : ℕ → Type 0 = λ n. (h : n ≤ 127) → a ≡ record { bits = n; in_range = h } in
    subst P e (λ h i. record { bits = a.bits; in_range = one a.bits a.in_range h i }) b.in_range

pub same_state : (a b : StateNumber) → a.number ≡ b.number → a ≡ b
same_state a b e =
    let one : (n : ℕ) → IsProp (n ≤ 127) = λ n. hlevel props in
    let P : ℕ → Type 0 = λ n. (h : n ≤ 127) → a ≡ record { number = n; in_range = h } in
    subst P e (λ h i. record { number = a.number; in_range = one a.number a.in_range h i }) b.in_range

pub same_functions : (a b : GroupBits) → a.group ≡ b.group → a.bits ≡ b.bits → a ≡ b
same_functions a b g e =
    let one : (group : Group) (n : ℕ) → IsProp (n ≤ group_max group) = λ group n. hlevel props in
    let P : ℕ → Type 0 = λ n. (h : n ≤ group_max a.group) → a ≡ record { group = a.group; bits = n; in_range = h } in
    let Q : Group → Type 0 =
    λ group. (h : b.bits ≤ group_max group) → a ≡ record { group = group; bits = b.bits; in_range = h } in
    subst Q g
    (subst P e (λ h i. record { group = a.group; bits = a.bits; in_range = one a.group a.bits a.in_range h i }))
    b.in_range

pub same_other : (a b : OtherFrame) → a.frame ≡ b.frame → a ≡ b
same_other a b e =
    let one : (f : List ℕ) → IsProp (IsFrame f) = λ f. hlevel props in
    let none : (f : List ℕ) → IsProp (¬ (HasRow f)) = λ f. hlevel props in
    let P : List ℕ → Type 0 =
    λ f. (v : IsFrame f) (h : ¬ (HasRow f)) → a ≡ record { frame = f; valid = v; no_row = h } in
    subst P e (λ v h i. record { frame = a.frame; valid = one a.frame a.valid v i; no_row = none a.frame a.no_row h i })
    b.valid b.no_row
