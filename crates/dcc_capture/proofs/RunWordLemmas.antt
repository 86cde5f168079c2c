-- What a word says as a run.
use Rattle.std.proofs.Common.{◌≡◌, ℕ, ◌<◌, List, true, nat_lt, nat_le, ◌&&◌, Option, None, Some, length, refl, arith}
use Rattle.std.proofs.lemmas.Bool.{and_parts, ltb-true}
use Rattle.std.proofs.lemmas.Option.{cond_some}
use Rattle.std.specs.List.{list_all}
use Rattle.std.specs.Char.{is_ascii_digit}
use Rattle.std.specs.Str.Parse.{digits_value}
use Rattle.dcc_io.specs.declared.word.Run.{Run}
use Rattle.dcc_io.specs.Words.{duration_of, count_in_word, before_star, behind_star, times, run_with, run_of}
use Rattle.dcc_io.proofs.SpellsLemmas.{no_star_in, before_all}

-- a count is at least one
count_some : (count : List ℕ) (n : ℕ) → count_in_word count ≡ Some n → 0 < n
count_some count n is =
    let v = digits_value 10 count in
    let form = nat_lt 0 (length count) && (nat_le (length count) 8 && list_all is_ascii_digit count) in
    let test = cond_some (form && (nat_lt 0 v && nat_le v 16777216)) v n is in
    let some = and_parts form (nat_lt 0 v && nat_le v 16777216) test.0 in
    rw (← test.1) (ltb-true 0 v (and_parts (nat_lt 0 v) (nat_le v 16777216) some.1).0)

times_some : (count : Option (List ℕ)) (n : ℕ) → times count ≡ Some n → 0 < n
times_some None n is = let one : 1 ≡ n = cc in rw (← one) (omega arith)
times_some (Some count) n is = count_some count n is

run_parts : (us n : Option ℕ) (run : Run) → run_with us n ≡ Some run → (us ≡ Some run.us) × (n ≡ Some run.n)
run_parts (Some us) (Some n) run is = let same : record { us = us; n = n } ≡ run = cc in rw (← same) (refl, refl)
run_parts us n run is = cc

-- what a run is spelled by
pub spelled_parts : (word : List ℕ) (run : Run) → run_of word ≡ Some run
    → (duration_of (before_star word) ≡ Some run.us) × (times (behind_star word) ≡ Some run.n)
spelled_parts word run is = run_parts (duration_of (before_star word)) (times (behind_star word)) run is

-- a run has some half
pub some_half : (word : List ℕ) (run : Run) → run_of word ≡ Some run → 0 < run.n
some_half word run is = times_some (behind_star word) run.n (spelled_parts word run is).1

-- a duration alone is a run of one half
pub run_of_duration : (word : List ℕ) (us : ℕ) → list_all is_ascii_digit word ≡ true → duration_of word ≡ Some us
    → run_of word ≡ Some (record { us = us; n = 1 })
run_of_duration word us digits is =
    let none = no_star_in is_ascii_digit word refl digits in rw (before_all word none, none, is) refl
