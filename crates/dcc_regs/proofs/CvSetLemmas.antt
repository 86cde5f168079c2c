-- The registers of a locomotive decoder after one CV was set.
use Rattle.std.proofs.Common.{◌≡◌, ◌≢◌, ℕ, ◌-◌, ◌≤◌, Bool, true, false, List, refl, sym, ◌∙◌, arith}
use Rattle.std.specs.Prelude.{None, Some, ◌&&◌, ◌==◌, nat_le, if◌then◌else◌, length, slice_set}
use Rattle.std.proofs.lemmas.Bool.Decides.{nat_tests, Decides-eqb}
use Rattle.std.proofs.lemmas.List.{get_or-set_same, get_or-set_other}
use mathlib.Core.Path.{fun_ext}
use Rattle.dcc_packet.specs.Bits.{is_one}
use Rattle.dcc_packet.specs.Cvs.{IsCvs, cv_in}
use Rattle.dcc_regs.specs.declared.register.Register.{Register}
use Rattle.dcc_regs.specs.declared.register.Register.TheVariants.{CvBit}
use Rattle.dcc_regs.specs.declared.register.Value.TheVariants.{Flag}
use Rattle.dcc_regs.specs.Loco.{LocoContent, loco_registers, is_cv_bit, with_cv}

bit_there : (cv place : ℕ) → 1 ≤ cv → cv ≤ 1024 → nat_le place 7 ≡ true → is_cv_bit cv place ≡ true
bit_there cv place a b h = grind (arith, nat_tests)

no_bit : (cv place : ℕ) → nat_le place 7 ≡ false → is_cv_bit cv place ≡ false
no_bit cv place h = grind (arith, nat_tests)

from_one : (cv place : ℕ) → is_cv_bit cv place ≡ true → 1 ≤ cv
from_one cv place h = grind (arith, nat_tests)

other_number : (n m : ℕ) → (n == m) ≡ false → n ≢ m
other_number n m e same = let contrary : true ≡ false = sym ((Decides-eqb n m).1 same) ∙ e in absurd (cc)

-- a bit of the CV that was set, or of another CV
bit_set : (c c' : ℕ → ℕ) (n v cv place : ℕ) (same low there : Bool) → 1 ≤ n → n ≤ 1024 → c' n ≡ v
    → ((k : ℕ) → 1 ≤ k → k ≢ n → c' k ≡ c k) → (cv == n) ≡ same → nat_le place 7 ≡ low → is_cv_bit cv place ≡ there
    → (if is_cv_bit cv place then Some (Flag (is_one (c' cv) place)) else None)
    ≡ (if cv == n && nat_le place 7 then Some (Flag (is_one v place)) else (if is_cv_bit cv place then Some
    (Flag (is_one (c cv) place)) else None))
bit_set c c' n v cv place true true there from to set others e f g =
    let is : cv ≡ n = (Decides-eqb cv n).0 e in
    let bit : is_cv_bit cv place ≡ true = bit_there cv place (rw is from) (rw is to) f in
    let value : c' cv ≡ v = rw is set in
    rw (bit, value, e, f) refl
bit_set c c' n v cv place true false there from to set others e f g = rw (no_bit cv place f, e, f) refl
bit_set c c' n v cv place false low false from to set others e f g = rw (g, e) refl
bit_set c c' n v cv place false low true from to set others e f g =
    let value : c' cv ≡ c cv = others cv (from_one cv place g) (other_number cv n e) in
    rw (value, e) refl

abbrev with_content_cvs : LocoContent → (ℕ → ℕ) → LocoContent
with_content_cvs d cvs = record d { cvs = cvs }

register_set : (d : LocoContent) (c' : ℕ → ℕ) (n v : ℕ) → 1 ≤ n → n ≤ 1024 → c' n ≡ v
    → ((k : ℕ) → 1 ≤ k → k ≢ n → c' k ≡ d.cvs k) → (r : Register)
    → loco_registers (with_content_cvs d c') r ≡ with_cv (loco_registers d) n v r
register_set d c' n v from to set others (CvBit cv place) =
    bit_set d.cvs c' n v cv place (cv == n) (nat_le place 7) (is_cv_bit cv place) from to set others refl refl refl
register_set d c' n v from to set others r = refl

-- the registers of a decoder after an element of the list of its CVs was set
pub cv_is_set : (d : LocoContent) (cvs : List ℕ) (n v : ℕ) → IsCvs cvs → 1 ≤ n → n ≤ 1024 → d.cvs ≡ cv_in cvs
    → loco_registers (with_content_cvs d (cv_in (slice_set cvs (n - 1) v))) ≡ with_cv (loco_registers d) n v
cv_is_set d cvs n v ok from to is =
    let count : length cvs ≡ 1024 = ok.count in
    let set : cv_in (slice_set cvs (n - 1) v) n ≡ v = get_or-set_same cvs (n - 1) v 0 (omega arith) in
    fun_ext (register_set d (cv_in (slice_set cvs (n - 1) v)) n v from to set
    (λ k low other.
    let apart : k - 1 ≢ n - 1 = λ e. other (omega arith) in
    rw is (get_or-set_other cvs (n - 1) (k - 1) v 0 apart)))
