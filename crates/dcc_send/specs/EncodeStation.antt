-- The station that `encode` creates.
use Rattle.std.specs.Prelude.{ℕ, Bool, true, false, not, Option, None, Some, Result, Ok, Err}
use Rattle.dcc_station.specs.Limits.{is_within_limits}
use Rattle.dcc_io.specs.declared.fault.ToolFault.{ToolFault}
use Rattle.dcc_io.specs.declared.fault.ToolFault.TheVariants.{Usage, Number, Line, Read, Write, NoMemory, TooMuch}
use Rattle.dcc_io.specs.declared.fault.Usage.TheVariants.{Words, BadWho, BadStation}

-- true if the request to `encode` has a station with the given sizes, and one of these sizes is out
-- of its limits
abbrev pub is_past_limits : Option (ℕ × ℕ × ℕ) → Bool
is_past_limits None = false
is_past_limits (Some sizes) = not (is_within_limits sizes.0 sizes.1 sizes.2)

-- false if the result is an error that occurs when `encode` creates its station. After such an
-- error, `encode` reads nothing.
abbrev pub has_begun : Result (Unit {0}) ToolFault → Bool
has_begun (Ok done) = true
has_begun (Err (Usage Words)) = true
has_begun (Err (Usage BadWho)) = true
has_begun (Err (Usage BadStation)) = false
has_begun (Err NoMemory) = false
has_begun (Err (Number line)) = true
has_begun (Err (Line line fault)) = true
has_begun (Err Read) = true
has_begun (Err Write) = true
has_begun (Err TooMuch) = true
