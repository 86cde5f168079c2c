-- The words at the beginning of the buffered bytes of an input.
use Rattle.std.specs.Prelude.{ℕ, ◌+◌, false, List, Option, None, length}
use Rattle.std.specs.Io.KnownBytes.{prepend_known}
use Rattle.dcc_io.specs.InputState.{InputState, closed_text}

-- The parts of an input that follow the buffered bytes: the bytes `rest` that its reader still gives,
-- the count of failed reads, and the number of further bytes that the limit allows.
pub record Behind : Type 0 where
  pub rest : Option (List ℕ)
  pub failures : ℕ
  pub spare : ℕ

-- the state of an input whose buffered bytes are `bytes`. The next byte is on line `line`, and the
-- last line that was used is `last`. The limit allows `halves` half-bits.
abbrev pub ahead_of : Behind → ℕ → List ℕ → ℕ → ℕ → InputState
ahead_of behind halves bytes line last = record {
  text = closed_text false (prepend_known bytes behind.rest);
  ahead = bytes;
  place = record { line = line; in_comment = false };
  lines = last;
  halves = halves;
  bytes = length bytes + behind.spare + 1;
  fault = None;
  failures = behind.failures;
}
