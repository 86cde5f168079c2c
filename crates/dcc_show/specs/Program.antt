-- The result of a program that lists a capture.
use Rattle.std.specs.Prelude.{◌≡◌, ℕ, Bool, Result, Ok, Err}
use Rattle.dcc_io.specs.declared.fault.ToolFault.{ToolFault}
use Rattle.dcc_io.specs.declared.fault.ToolFault.TheVariants.{Usage}
use Rattle.dcc_io.specs.declared.fault.Usage.TheVariants.{Words}
use Rattle.dcc_io.specs.InputState.{InputState}
use Rattle.dcc_io.specs.WriterState.{WriterState}
use Rattle.dcc_capture.specs.Shown.{Shows}

-- the program has listed the capture, with packet lines if `words` is true. If its arguments have
-- an error, `result` is this error, and the program read and wrote nothing.
abbrev pub DoesAsAsked : Result Bool ToolFault → InputState → WriterState → Result (Unit {0}) ToolFault → InputState
    → WriterState → Type 0
DoesAsAsked (Ok words) old before result new after = Shows words old before result new after
DoesAsAsked (Err fault) old before result new after = (result ≡ Err fault) × (new ≡ old) × (after ≡ before)

-- if the arguments have an error, the error is U1, a wrong command line
abbrev pub RequestsListing : Result Bool ToolFault → Type 0
RequestsListing (Ok words) = Unit {0}
RequestsListing (Err fault) = fault ≡ Usage Words

-- the exit status of the program: 0 if the whole listing was written, 2 for a wrong command line,
-- and 3 for any other error
abbrev pub listing_status : Result (Unit {0}) ToolFault → ℕ
listing_status (Ok done) = 0
listing_status (Err (Usage usage)) = 2
listing_status (Err fault) = 3
