-- Half-bits of ones at the beginning of a list.
use Rattle.std.proofs.Common.{◌≡◌, ◌≢◌, ℕ, suc, ◌+◌, ◌<◌, ◌≤◌, List, ◌∷◌, length, drop, get_or, map, refl, ap, ◌∙◌}
use Rattle.std.proofs.Common.{arith}
use Rattle.std.proofs.Common.{drop-cons, add-one}
use Rattle.std.proofs.Math.ListN.{drop_of_length-le}
use Rattle.dcc_wire.specs.declared.half.Half.{Half}
use Rattle.dcc_wire.specs.declared.half.Half.TheVariants.{One, Zero, Bad}
use Rattle.dcc_wire.specs.Framing.{ones_before}
use Rattle.dcc_lost.specs.Nearest.{nearest_class}

ones_before-one : (half : Half) (halves : List Half) → half ≡ One → ones_before (half ∷ halves)
    ≡ suc (ones_before halves)
unfolding ones_before
ones_before-one half halves e = rw e

ones_before-other : (half : Half) (halves : List Half) → half ≢ One → ones_before (half ∷ halves) ≡ 0
unfolding ones_before
ones_before-other One halves ne = absurd (ne refl)
ones_before-other Zero halves ne = refl
ones_before-other Bad halves ne = refl

pub ones_go_on : (halves : List ℕ) (i n : ℕ) → i < length halves → nearest_class (get_or halves i 0) ≡ One
    → n ≡ i + ones_before (map nearest_class (drop i halves))
    → n ≡ i + 1 + ones_before (map nearest_class (drop (i + 1) halves))
ones_go_on halves i n within one so =
    let here = ap (map nearest_class) (drop-cons halves i 0 within) in
    let more = ones_before-one (nearest_class (get_or halves i 0)) (map nearest_class (drop (suc i) halves)) one in
    let next : ones_before (map nearest_class (drop i halves))
    ≡ suc (ones_before (map nearest_class (drop (suc i) halves)))
    = ap ones_before here ∙ more in
    rw add-one (omega (arith, so, next))

pub ones_end : (halves : List ℕ) (i n : ℕ) → i < length halves → nearest_class (get_or halves i 0) ≢ One
    → n ≡ i + ones_before (map nearest_class (drop i halves)) → i ≡ n
ones_end halves i n within other so =
    let here = ap (map nearest_class) (drop-cons halves i 0 within) in
    let none = ones_before-other (nearest_class (get_or halves i 0)) (map nearest_class (drop (suc i) halves)) other in
    let next : ones_before (map nearest_class (drop i halves)) ≡ 0 = ap ones_before here ∙ none in
    omega (arith, so, next)

pub ones_all : (halves : List ℕ) (i n : ℕ) → length halves ≤ i → i ≤ length halves
    → n ≡ i + ones_before (map nearest_class (drop i halves)) → length halves ≡ n
unfolding ones_before
ones_all halves i n past within so =
    let none : ones_before (map nearest_class (drop i halves)) ≡ 0 = rw (drop_of_length-le halves {i = i} past) in
    omega (arith, so, none)
