-- Buffered output.
use Rattle.std.specs.Prelude.{◌≡◌, ℕ, ◌++◌, List, Result, Ok, Err}
use Rattle.std.specs.Io.KnownBytes.{Appends}
use Rattle.dcc_io.specs.declared.stream.Failed.{Failed}
use Rattle.dcc_io.specs.Failures.{HasRisen}
use Rattle.dcc_io.specs.WriterState.{WriterState}
use Rattle.dcc_io.specs.WrittenBytes.{AppendsFront}

-- between the states `old` and `new`, a writer has written `bytes` except for their suffix `held`,
-- which is buffered
pub record Holds (old new : WriterState) (bytes held : List ℕ) : Type 0 where
  pub written : List ℕ
  pub whole : bytes ≡ written ++ held
  pub appended : Appends old.contents new.contents written

-- if the result is Ok, the writer has written `bytes` except for their suffix `held`, which is
-- buffered. If the result is an error, a write failed or wrote no byte, and a prefix of `bytes` was
-- written.
abbrev pub HoldsOrFails : WriterState → List ℕ → Result (Unit {0}) Failed → List ℕ → WriterState → Type 0
HoldsOrFails old bytes (Ok done) held new = Holds old new bytes held × (new.failures ≡ old.failures)
HoldsOrFails old bytes (Err failed) held new = AppendsFront old new bytes × HasRisen old.failures new.failures
