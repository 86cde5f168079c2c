-- The CVs that the registers of a locomotive decoder hold.
use Rattle.std.proofs.Common.{◌≡◌, ℕ, ◌+◌, ◌-◌, ◌<◌, ◌≤◌, Bool, true, false, List, refl, sym, ◌∙◌, subst, arith}
use Rattle.std.specs.Prelude.{length, slice_index, nat_lt}
use Rattle.std.proofs.lemmas.Bool.Decides.{nat_tests}
use Rattle.std.proofs.lemmas.List.{ext_get_or, get_or_past}
use Rattle.std.proofs.lemmas.List.FromFn.{get_or-map-range_with_len, length-map-range_with_len}
use Rattle.dcc_packet.specs.Cvs.{IsCvs, cv_in}
use Rattle.dcc_packet.proofs.BitLemmas.{byte_of-lt}
use Rattle.dcc_regs.specs.declared.loco_state.LocoState.{LocoState}
use Rattle.dcc_regs.specs.declared.register.Register.TheVariants.{CvBit}
use Rattle.dcc_regs.specs.Loco.{cv_held, holds_one}
use Rattle.dcc_regs.specs.LocoState.{loco_map, loco_state_content}
use Rattle.dcc_regs.specs.Result.{RegisterMap}
use Rattle.dcc_regs.proofs.CvLemmas.{cv_of-loco}
use Rattle.dcc_track.specs.LocoDecoders.{cvs_held}

pub cv_in-held : (m : RegisterMap) (n : ℕ) → 1 ≤ n → n ≤ 1024 → cv_in (cvs_held m) n ≡ cv_held m n
unfolding cvs_held
cv_in-held m n low high = get_or-map-range_with_len (cv_held m) 1 1024 (n - 1) n 0 (omega arith) (omega arith)

pub length-held : (m : RegisterMap) → length (cvs_held m) ≡ 1024
unfolding cvs_held
length-held m = length-map-range_with_len (cv_held m) 1 1024

byte_at : (m : RegisterMap) (i : ℕ) (t : Bool) → nat_lt i 1024 ≡ t → slice_index (cvs_held m) i < 256
byte_at m i true here =
    let within : i < 1024 = grind (arith, nat_tests) in
    let held : cv_in (cvs_held m) (i + 1) ≡ cv_held m (i + 1) =
    cv_in-held m (i + 1) (omega arith) (omega arith) in
    let place : (i + 1) - 1 ≡ i = omega arith in
    let is : slice_index (cvs_held m) i ≡ cv_held m (i + 1) =
    subst (λ (k : ℕ). slice_index (cvs_held m) k ≡ cv_held m (i + 1)) place held in
    rw is (byte_of-lt (λ k. holds_one (m (CvBit (i + 1) k))))
byte_at m i false past =
    let beyond : 1024 ≤ i = grind (arith, nat_tests) in
    let none : slice_index (cvs_held m) i ≡ 0 = get_or_past (cvs_held m) i 0 (rw (length-held m) beyond) in
    rw none (omega arith)

pub held_bytes : (m : RegisterMap) → IsCvs (cvs_held m)
held_bytes m = record { count = length-held m; bytes = λ i. byte_at m i (nat_lt i 1024) refl }

-- a list with the value of each CV is the list of the CVs
pub held_is : (m : RegisterMap) (cvs : List ℕ) → length cvs ≡ 1024
    → ((n : ℕ) → 1 ≤ n → n ≤ 1024 → cv_held m n ≡ cv_in cvs n) → cvs_held m ≡ cvs
held_is m cvs count each =
    ext_get_or 0 (cvs_held m) cvs (length-held m ∙ sym count)
    (λ i here.
    let few : i < 1024 = subst (λ (n : ℕ). i < n) (length-held m) here in
    let place : (i + 1) - 1 ≡ i = omega arith in
    subst (λ (k : ℕ). slice_index (cvs_held m) k ≡ slice_index cvs k) place
    (cv_in-held m (i + 1) (omega arith) (omega arith) ∙ each (i + 1) (omega arith) (omega arith)))

-- the CVs of a locomotive decoder in a state
pub held_state : (s : LocoState) → IsCvs s.cvs → cvs_held (loco_map s) ≡ s.cvs
held_state s ok =
    held_is (loco_map s) s.cvs ok.count (λ n low high. cv_of-loco (loco_state_content s) n low high (ok.bytes (n - 1)))
