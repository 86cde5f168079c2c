-- The result of `run`.
use Rattle.std.specs.Prelude.{◌≡◌, ℕ, List, Result}
use Rattle.std.specs.List.{AllZip}
use Rattle.std.specs.Io.KnownBytes.{Appends}
use Rattle.dcc_regs.specs.declared.register.Who.{Who}
use Rattle.dcc_regs.specs.Result.{RegisterMap}
use Rattle.dcc_order.specs.Hearing.{HasHeardHalves}
use Rattle.dcc_io.specs.declared.fault.ToolFault.{ToolFault}
use Rattle.dcc_io.specs.Calls.{CallPost, ReadsAll, ReadsTo}
use Rattle.dcc_capture.specs.Capture.{IsOfCapture, CaptureLinesAt}
use Rattle.dcc_io.specs.InputState.{InputState}
use Rattle.dcc_capture.specs.Capture.{captures}
use Rattle.dcc_io.specs.WriterState.{WriterState}
use Rattle.dcc_io.specs.WrittenBytes.{AppendsFront}
use Rattle.dcc_saved.specs.FleetText.{fleet_text}

-- a fleet: the identity and the registers of each of its decoders
abbrev pub Fleet : Type 0
Fleet = List (Who × RegisterMap)

-- each decoder of the fleet `starts` has heard the packets in `halves`. The decoder then equals the
-- decoder at the same place of the fleet `ends`.
abbrev pub HaveHeard : Fleet → Fleet → List ℕ → Type 0
HaveHeard starts ends halves = AllZip (λ start end. HasHeardHalves halves start.0 start.1 end.0 end.1) starts ends

-- the whole capture was read, and each decoder of the fleet `starts` has heard the packets of the
-- capture. Each decoder then equals the decoder at the same place of the fleet `ends`.
abbrev pub HearsAll : Fleet → InputState → Fleet → InputState → Type 0
HearsAll starts old ends new = ReadsAll captures old new (HaveHeard starts ends)

-- If the result of `run` is Ok, each decoder has heard the whole capture, and the decoder text of
-- the fleet `ends` was written. After an error of the input, each decoder has heard the half-bits
-- before this error, and nothing was written. After a failed write, a prefix of the text was
-- written.
abbrev pub Runs : Fleet → InputState → WriterState → Result (Unit {0}) ToolFault → Fleet → InputState → WriterState
    → Type 0
Runs starts old before result ends new after =
    CallPost (λ done. HearsAll starts old ends new × Appends before.contents after.contents (fleet_text ends))
    (λ fault. IsOfCapture fault × ReadsTo captures old fault new (HaveHeard starts ends)
    × CaptureLinesAt old fault new × (after ≡ before))
    (HearsAll starts old ends new × AppendsFront before after (fleet_text ends)) ⊥ before result after
