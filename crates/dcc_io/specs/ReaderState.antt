-- The state of a buffered reader.
use Rattle.std.specs.Prelude.{◌≡◌, ℕ, ◌+◌, ◌<◌, ◌≤◌, ◌∷◌, ◌++◌, List, [], length, Option, None, Some, Result, Ok, Err}
use Rattle.std.specs.Prelude.{IfSome}
use Rattle.std.specs.Io.KnownBytes.{Keeps}
use Rattle.dcc_io.specs.declared.stream.Failed.{Failed}
use Rattle.dcc_io.specs.Failures.{one_more}

pub record ReaderState : Type 0 where
  -- the buffered bytes
  pub ahead : List ℕ
  -- the buffered bytes, and then the bytes that are still to be read. If the contract of the reader
  -- does not give its bytes, the value is `None`.
  pub text : Option (List ℕ)
  -- the number of failed reads
  pub failures : ℕ
  -- the number of reads, if the reader counts them
  pub reads : ℕ

-- `text` begins with `bytes`, or it is `None`
abbrev pub StartsWithBytes : List ℕ → Option (List ℕ) → Type 0
StartsWithBytes bytes text = IfSome text (λ all. (rest : List ℕ) × (all ≡ bytes ++ rest))

-- `text` consists of `byte` and then `rest`, or `text` is `None`
abbrev pub StartsWithByte : Option (List ℕ) → ℕ → Option (List ℕ) → Type 0
StartsWithByte None byte rest = Unit {0}
StartsWithByte (Some text) byte None = ⊥
StartsWithByte (Some text) byte (Some rest) = text ≡ byte ∷ rest

-- `text` has no byte left, or it is `None`
abbrev pub IsAtEnd : Option (List ℕ) → Type 0
IsAtEnd text = IfSome text (λ bytes. bytes ≡ [])

-- between the states `old` and `new`, there was at most one read, and no read if the buffer had
-- bytes. So after a read that returned the end, there is no further read in the same call.
pub record ReadsAtMostOnce (old new : ReaderState) : Type 0 where
  pub most : new.reads ≤ old.reads + 1
  pub ahead : 0 < length old.ahead → new.reads ≡ old.reads

-- the result is the next byte, or `None` at the end of the text. If a read failed, the result is an
-- error, and no byte was removed.
abbrev pub AnswersNext : ReaderState → Result (Option ℕ) Failed → ReaderState → Type 0
AnswersNext old (Ok (Some byte)) new =
    StartsWithByte old.text byte new.text × (new.failures ≡ old.failures) × ReadsAtMostOnce old new
AnswersNext old (Ok None) new =
    (new.ahead ≡ []) × IsAtEnd old.text × Keeps old.text new.text × (new.failures ≡ old.failures)
    × ReadsAtMostOnce old new
AnswersNext old (Err failed) new =
    (old.ahead ≡ []) × (new.ahead ≡ []) × Keeps old.text new.text × (new.failures ≡ one_more old.failures)
    × ReadsAtMostOnce old new

-- the text is unchanged, and the buffer is empty only if the text has no byte left
pub record IsFilled (old new : ReaderState) : Type 0 where
  pub text : Keeps old.text new.text
  pub failures : new.failures ≡ old.failures
  pub some : new.ahead ≡ [] → IsAtEnd new.text
  pub reads : new.reads ≤ old.reads + 1

-- if the result is Ok, the buffer is filled. If the result is an error, a read failed and removed
-- no byte.
abbrev pub Fills : ReaderState → Result (Unit {0}) Failed → ReaderState → Type 0
Fills old (Ok done) new = IsFilled old new
Fills old (Err failed) new =
    (new.ahead ≡ []) × Keeps old.text new.text × (new.failures ≡ one_more old.failures) × (new.reads ≤ old.reads + 1)

-- the first buffered byte was removed, or the buffer was empty and the result is `None`
abbrev pub TakesFirst : ReaderState → Option ℕ → ReaderState → Type 0
TakesFirst old (Some byte) new =
    StartsWithByte old.text byte new.text × (new.failures ≡ old.failures) × (new.reads ≡ old.reads)
TakesFirst old None new = (old.ahead ≡ []) × (new ≡ old)
