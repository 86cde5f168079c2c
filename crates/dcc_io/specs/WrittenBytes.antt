-- The effect of writes.
use Rattle.std.specs.Prelude.{◌≡◌, ℕ, ◌++◌, List, Result, Ok, Err}
use Rattle.std.specs.Io.KnownBytes.{Appends}
use Rattle.dcc_io.specs.declared.stream.Failed.{Failed}
use Rattle.dcc_io.specs.Failures.{HasRisen}
use Rattle.dcc_io.specs.WriterState.{WriterState}

-- between the states `old` and `new`, a prefix of `bytes` was written
pub record AppendsFront (old new : WriterState) (bytes : List ℕ) : Type 0 where
  pub front : List ℕ
  pub rest : List ℕ
  pub whole : bytes ≡ front ++ rest
  pub written : Appends old.contents new.contents front

-- if the result is Ok, all bytes of `bytes` were written. If the result is an error, a write failed
-- or wrote no byte, and a prefix of `bytes` was written.
abbrev pub Writes : WriterState → List ℕ → Result (Unit {0}) Failed → WriterState → Type 0
Writes old bytes (Ok done) new = Appends old.contents new.contents bytes × (new.failures ≡ old.failures)
Writes old bytes (Err failed) new = AppendsFront old new bytes × HasRisen old.failures new.failures
