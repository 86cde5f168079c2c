-- The state of a writer.
use Rattle.std.specs.Prelude.{ℕ, List, Option}

-- the state of a writer, as plain data
pub record WriterState : Type 0 where
  -- the bytes that were written, or `None` if the contract of the writer does not give its bytes
  pub contents : Option (List ℕ)
  -- the number of failed writes. A write fails also if it has bytes to write and writes none.
  pub failures : ℕ
