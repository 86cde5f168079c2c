-- Numbers that are read as halves.
use Rattle.std.proofs.Common.{suc, ◌≡◌, ℕ, ◌-◌, ◌≤◌, List, [], ◌∷◌, ◌++◌, length, Option, Some, refl, ap, arith, min}
use Rattle.std.proofs.lemmas.Bool.{lt-ltb}
use Rattle.std.proofs.lemmas.Fmt.{decimal_is_IsNumeral, decimal_nonempty}
use Rattle.std.specs.Fmt.{decimal}
use Rattle.std.specs.List.{AllByRecursion}
use Rattle.dcc_io.specs.declared.fault.KeptFault.{KeptFault}
use Rattle.dcc_io.specs.Items.{items_behind}
use Rattle.dcc_io.specs.Words.{PlacedWord, duration_of}
use Rattle.dcc_io.proofs.DecimalLemmas.{half_is_short}
use Rattle.dcc_io.proofs.NumberWords.{IsSmall, number_words, decimal_digits}
use Rattle.dcc_capture.specs.Capture.{halves_of_words}
use Rattle.dcc_capture.proofs.CaptureLemmas.{enough}
use Rattle.dcc_capture.proofs.RunWordLemmas.{run_of_duration}

-- the decimal of a duration says it
duration_back : (n : ℕ) → IsSmall n → duration_of (decimal n) ≡ Some n
duration_back n small =
    let some = lt-ltb 0 (length (decimal n)) (decimal_nonempty n (omega (arith, small))) in
    let few = enough (length (decimal n)) 10 (omega (arith, half_is_short n (omega (arith, small)))) in
    let capped : min n 65535 ≡ n = omega (arith, small) in
    rw (some, few, decimal_digits n small, (decimal_is_IsNumeral n (omega (arith, small))).1) (ap Some capped)

-- these halves are taken, and then those of the words behind them
pub numbers_taken : (most line : ℕ) (ns : List ℕ) (ws : List PlacedWord) (last : Option KeptFault)
    → AllByRecursion IsSmall ns → length ns ≤ most
    → halves_of_words most (number_words line ns ++ ws) last
    ≡ items_behind ns (halves_of_words (most - length ns) ws last)
numbers_taken most line [] ws last small fits =
    let none : most ≡ most - 0 = omega arith in ap (λ m. halves_of_words m ws last) none
numbers_taken most line (n ∷ ns) ws last small fits =
    let run = run_of_duration (decimal n) n (decimal_digits n small.0) (duration_back n small.0) in
    let fewer : most - 1 - length ns ≡ most - suc (length ns) = omega arith in
    rw (run, enough 1 most (omega arith), numbers_taken (most - 1) line ns ws last small.1 (omega arith), fewer) refl
