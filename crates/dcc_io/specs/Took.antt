-- How an input reads a prefix of its text that has a property.
use Rattle.std.specs.Prelude.{◌≡◌, ℕ, ◌+◌, ◌-◌, ◌<◌, ◌≤◌, nat_le, ◌∷◌, ◌++◌, List, [], Option, None, Some, length, take}
use Rattle.std.specs.Prelude.{IfSome, IsSomeAnd, if◌then◌else◌}
use Rattle.dcc_packet.specs.declared.fault.PacketFault.TheVariants as faults
use Rattle.dcc_io.specs.declared.fault.KeptFault.{KeptFault}
use Rattle.dcc_io.specs.declared.fault.KeptFault.TheVariants.{Number, Line, Read, TooMuch}
use Rattle.dcc_io.specs.Failures.{one_more}
use Rattle.dcc_io.specs.InputState.{InputState, all_lines, lines_up_to}

-- an input that reads `used` in state `old` goes to state `new`. Let the byte `next` and any bytes
-- `more` follow `used`. Then `all_lines new (next ∷ more)` and `all_lines old (used ++ next ∷
-- more)` are equal.
abbrev pub CountsLines : InputState → List ℕ → InputState → Type 0
CountsLines old used new = (next : ℕ) (more : List ℕ) → all_lines new (next ∷ more) ≡ all_lines old (used
    ++ next ∷ more)

-- `text` consists of a prefix and of `rest`, and `fact` holds for the prefix. Between the states
-- `old` and `new`, the input read the bytes and the lines of the prefix.
pub record Uses (fact : List ℕ → Type 0) (old new : InputState) (text rest : List ℕ) : Type 0 where
  pub used : List ℕ
  pub whole : text ≡ used ++ rest
  pub is : fact used
  pub bytes : new.bytes + length used ≡ old.bytes
  pub room : 0 < length used → new.bytes ≡ 0 → rest ≡ []
  pub lines : all_lines new rest ≡ all_lines old text
  pub counts : 0 < length rest → CountsLines old used new

-- between the states `old` and `new`, the input read a prefix of its text without an error, and
-- `fact` holds for this prefix
pub record Took (fact : List ℕ → Type 0) (old new : InputState) : Type 0 where
  pub text : IfSome old.text (λ text. IsSomeAnd new.text (λ rest. Uses fact old new text rest))
  pub bytes : new.bytes ≤ old.bytes
  pub fault : new.fault ≡ None
  pub failures : new.failures ≡ old.failures

-- the value of `said` for all bytes of `text`, if the limit of `input` allows these bytes.
-- Otherwise the value of `said` for the allowed bytes and the error U7 after them.
abbrev pub within_limit : {A : Type 0} → (List ℕ → Option KeptFault → A) → InputState → List ℕ → A
within_limit said input text =
    if nat_le (length text) input.bytes then said text None else said (take (input.bytes - 1) text) (Some TooMuch)

-- the error of a text that ends too early: the error of the input if there is an error, otherwise
-- P10 on line `line`
abbrev pub fault_at_end : ℕ → Option KeptFault → KeptFault
fault_at_end line None = Line line faults.Word
fault_at_end line (Some fault) = fault

-- `fact` holds for the bytes that the input read between the states `old` and `new`
abbrev pub StandsBehind : (List ℕ → Type 0) → InputState → InputState → Type 0
StandsBehind fact old new =
    IfSome old.text (λ text. IsSomeAnd new.text (λ rest. (used : List ℕ) × (text ≡ used ++ rest) × fact used))

-- a read failed, and `fact` holds for the bytes that were read before it
abbrev pub FailsBehind : (List ℕ → Type 0) → InputState → InputState → Type 0
FailsBehind fact old new = (new.failures ≡ one_more old.failures) × (new.ahead ≡ []) × StandsBehind fact old new

-- the text of `old` has more bytes than its limit allows, and `fact` holds for the allowed bytes
abbrev pub OverflowsBehind : (List ℕ → Type 0) → InputState → InputState → Type 0
OverflowsBehind fact old new = (new.failures ≡ old.failures)
    × IfSome old.text (λ text. (old.bytes < length text) × fact (take (old.bytes - 1) text))

-- if the error is U4, a read failed after bytes for which `fails` holds. For any other error,
-- `says` holds for the text of `old`.
abbrev pub Stops : (List ℕ → Type 0) → (List ℕ → Type 0) → InputState → KeptFault → InputState → Type 0
Stops fails says old Read new = FailsBehind fails old new
Stops fails says old fault new = (new.failures ≡ old.failures) × IfSome old.text says

-- `text` consists of a prefix and of `rest`, and `new` has read the lines of this prefix
pub record UsesLines (old new : InputState) (text rest : List ℕ) : Type 0 where
  pub used : List ℕ
  pub whole : text ≡ used ++ rest
  pub more : 0 < length rest
  pub lines : new.lines ≡ lines_up_to old used

-- the input has read the lines up to an error. For U2 and U3, the last of these lines is the line
-- that the error names. For U4, the input has read the lines of the bytes before the failed read.
-- For U7, it has read the lines of the bytes that the limit allows.
abbrev pub LinesAt : InputState → KeptFault → InputState → Type 0
LinesAt old (Number line) new = IfSome old.text (λ text. new.lines ≡ line)
LinesAt old (Line line fault) new = IfSome old.text (λ text. new.lines ≡ line)
LinesAt old Read new = IfSome old.text (λ text. IsSomeAnd new.text (λ rest. UsesLines old new text rest))
LinesAt old TooMuch new =
    IfSome old.text
    (λ text. (old.bytes < length text) × (new.lines ≡ lines_up_to old (take (old.bytes - 1) text)))
