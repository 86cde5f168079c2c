-- Numbers in a row are words.
use Rattle.std.proofs.Common.{◌≡◌, ℕ, ◌+◌, ◌<◌, List, [], ◌∷◌, ◌++◌, true, refl, arith, append_assoc}
use Rattle.std.proofs.lemmas.Fmt.{decimal_is_IsNumeral, decimal_nonempty}
use Rattle.std.specs.Char.{is_ascii_digit}
use Rattle.std.specs.Fmt.{decimal}
use Rattle.std.specs.List.{list_all, flat_map, AllByRecursion}
use Rattle.dcc_packet.proofs.WrittenWords.{test_from_digits}
use Rattle.dcc_io.specs.Spaced.{behind_space}
use Rattle.dcc_io.specs.TextPlace.{line_behind}
use Rattle.dcc_io.specs.Words.{PlacedWord, is_gap, ended_words}
use Rattle.dcc_io.proofs.HandLemmas.{outside}
use Rattle.dcc_io.proofs.FrontLemmas.{plain_digits, passes_front, line_feed_passes}

-- a number of 16 bits
abbrev pub IsSmall : ℕ → Type 0
IsSmall n = n < 65536

-- each of them as a word on this line
abbrev pub number_words : ℕ → List ℕ → List PlacedWord
number_words line [] = []
number_words line (n ∷ ns) = record { line = line; bytes = decimal n } ∷ number_words line ns

pub decimal_digits : (n : ℕ) → IsSmall n → list_all is_ascii_digit (decimal n) ≡ true
decimal_digits n small = test_from_digits (decimal n) (decimal_is_IsNumeral n (omega (arith, small))).0.1

-- a decimal and a gap
decimal_passes : (line n gap : ℕ) (more : List ℕ) → IsSmall n → is_gap gap ≡ true
    → ended_words (outside line) (decimal n ++ gap ∷ more) ≡ record { line = line; bytes = decimal n } ∷ ended_words
    (outside (line_behind line gap)) more
decimal_passes line n gap more small is =
    rw (← append_assoc (decimal n) (gap ∷ []) more)
    (passes_front line gap (decimal n) (plain_digits (decimal n) (decimal_digits n small))
    (decimal_nonempty n (omega (arith, small))) is more)

-- a line of no number
pub empty_line_back : (line : ℕ) (more : List ℕ)
    → ended_words (outside line) (10 ∷ more) ≡ ended_words (outside (line + 1)) more
empty_line_back line more = line_feed_passes line more

-- a line of numbers with one space between them
pub numbers_back : (line n : ℕ) (ns more : List ℕ) → AllByRecursion IsSmall (n ∷ ns)
    → ended_words (outside line) (decimal n ++ (flat_map behind_space ns ++ 10 ∷ more)) ≡ number_words line (n ∷ ns)
    ++ ended_words (outside (line + 1)) more
unfolding is_gap
numbers_back line n [] more small = decimal_passes line n 10 more small.0 refl
numbers_back line n (m ∷ ns) more small =
    let here = decimal_passes line n 32 (decimal m ++ (flat_map behind_space ns ++ 10 ∷ more)) small.0 refl in
    rw (append_assoc (behind_space m) (flat_map behind_space ns) (10 ∷ more), here, numbers_back line m ns more small.1)
    refl
