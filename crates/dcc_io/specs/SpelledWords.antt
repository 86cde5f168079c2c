-- The stored form of a word.
use Rattle.std.specs.Prelude.{◌≡◌, ℕ, List, Option, None, Some, true, min, length}
use Rattle.std.specs.List.{list_all}
use Rattle.std.specs.Char.{is_ascii_digit}
use Rattle.std.specs.Str.Parse.{digits_value}
use Rattle.dcc_io.specs.Words.{before_star, behind_star, is_dash}
use Rattle.dcc_io.specs.declared.digits.Digits.{Digits}
use Rattle.dcc_io.specs.declared.word.RunWord.{RunWord}

-- `so_far` is the stored form of `bytes`: the number of bytes, true if all bytes are digits, and
-- the value of these digits.
pub record AreDigits (so_far : Digits) (bytes : List ℕ) : Type 0 where
  pub len : so_far.len ≡ min (length bytes) 11
  pub all_digits : so_far.all_digits ≡ list_all is_ascii_digit bytes
  pub capped : so_far.all_digits ≡ true → so_far.capped ≡ min (digits_value 10 bytes) 100000000

-- `so_far` is the stored form of `bytes`, or both are `None`
abbrev pub AreSomeDigits : Option Digits → Option (List ℕ) → Type 0
AreSomeDigits None None = Unit {0}
AreSomeDigits None (Some bytes) = ⊥
AreSomeDigits (Some so_far) None = ⊥
AreSomeDigits (Some so_far) (Some bytes) = AreDigits so_far bytes

-- `so_far` is the stored form of `word`. `word` can also be a prefix of a word.
pub record Spells (so_far : RunWord) (word : List ℕ) : Type 0 where
  pub duration : AreDigits so_far.duration (before_star word)
  pub count : AreSomeDigits so_far.count (behind_star word)
  pub all_dashes : so_far.all_dashes ≡ list_all is_dash word
