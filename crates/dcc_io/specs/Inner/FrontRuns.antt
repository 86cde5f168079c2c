-- A run at the beginning of a list of bytes.
use Rattle.std.specs.Prelude.{◌≡◌, ℕ, ◌<◌, List, true, Some, take}
use Rattle.std.specs.List.{list_all}
use Rattle.std.specs.Char.{is_ascii_digit}
use Rattle.std.specs.Str.Parse.{digits_value}
use Rattle.dcc_io.specs.declared.front_run.FrontRun.{FrontRun}
use Rattle.dcc_io.specs.Words.{run_of}
use Rattle.dcc_io.specs.Inner.FrontWords.{BeginsWithWord}

-- `word` consists of decimal digits with the value `number`, which is below 100,000
pub record SpellsNumber (number : ℕ) (word : List ℕ) : Type 0 where
  pub digits : list_all is_ascii_digit word ≡ true
  pub value : number ≡ digits_value 10 word
  pub small : number < 100000

-- `bytes` begin with a word that is the run in `front`, and a gap follows the word
pub record IsFrontRun (bytes : List ℕ) (front : FrontRun) : Type 0 where
  pub begins : BeginsWithWord bytes front.len front.ends_line
  pub spells : run_of (take front.len bytes) ≡ Some front.run
