-- A line at the beginning of a list of bytes.
use Rattle.std.specs.Prelude.{◌≡◌, ℕ, ◌<◌, ◌∷◌, ◌++◌, List, true, false, length, take, slice_index_or}
use Rattle.dcc_io.specs.InputState.{InputState}
use Rattle.dcc_io.specs.NextLine.{IsOneLine, ReadsLine}
use Rattle.dcc_io.specs.PacketLines.{is_skipped}

-- `bytes` begin with the valid line `line` and the line feed that ends it
pub record BeginsWithLine (bytes line : List ℕ) : Type 0 where
  pub behind : List ℕ
  pub whole : bytes ≡ line ++ 10 ∷ behind
  pub is_line : IsOneLine line

-- `bytes` begin with the valid line `line` and its line feed. This line is neither blank nor a
-- comment.
pub record IsFrontLine (bytes line : List ℕ) : Type 0 where
  pub begins : BeginsWithLine bytes line
  pub says : is_skipped line ≡ false

-- the first `len` bytes of `bytes` are a valid line, and a line feed follows this line
pub record IsEndedLine (bytes : List ℕ) (len : ℕ) : Type 0 where
  pub inside : len < length bytes
  pub ends : slice_index_or bytes len 0 ≡ 10
  pub is_line : IsOneLine (take len bytes)

-- the first `len` bytes of `bytes` are a valid line that is blank or a comment, and a line feed
-- follows this line
pub record IsSkippedLine (bytes : List ℕ) (len : ℕ) : Type 0 where
  pub ended : IsEndedLine bytes len
  pub skipped : is_skipped (take len bytes) ≡ true

-- between the states `old` and `new`, the input read a line that is blank or a comment
pub record SkipsLine (old new : InputState) : Type 0 where
  pub line : List ℕ
  pub ends : ReadsLine old old.place.line line new
  pub skipped : is_skipped line ≡ true
