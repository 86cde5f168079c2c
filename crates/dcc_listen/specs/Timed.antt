-- The result of `timing`.
use Rattle.std.specs.Prelude.{◌≡◌, ◌+◌, Result, Ok, Err, length}
use Rattle.std.specs.Io.KnownBytes.{Appends}
use Rattle.dcc_io.specs.declared.fault.ToolFault.{ToolFault}
use Rattle.dcc_io.specs.declared.fault.KeptFault.{KeptFault}
use Rattle.dcc_io.specs.Calls.{CallPost, ReadsAll, ReadsTo}
use Rattle.dcc_io.specs.InputState.{InputState}
use Rattle.dcc_io.specs.WriterState.{WriterState}
use Rattle.dcc_io.specs.WrittenBytes.{AppendsFront}
use Rattle.dcc_capture.specs.Capture.{captures, IsOfCapture, CaptureLinesAt}
use Rattle.dcc_lost.specs.declared.figures.TrackFigures.{TrackFigures}
use Rattle.dcc_lost.specs.MeasuresTrack.{MeasuresTrack}
use Rattle.dcc_listen.specs.TimingText.{timing_text}

-- a capture was read up to the error `fault`, which the input then stores
pub record StopsTiming (old : InputState) (fault : KeptFault) (new : InputState) : Type 0 where
  pub of_capture : IsOfCapture fault
  pub reads : ReadsTo captures old fault new (λ halves. Unit {0})
  pub lines : CaptureLinesAt old fault new

-- if the result is Ok, the whole capture was read, and `figures` are all statistics of its half-bits.
-- If the result is an error, the capture was read up to the error.
abbrev pub MeasuresCapture : InputState → Result TrackFigures KeptFault → InputState → Type 0
MeasuresCapture old (Ok figures) new =
    ReadsAll captures old new (λ halves. MeasuresTrack figures halves × (new.halves + length halves ≡ old.halves))
MeasuresCapture old (Err fault) new = StopsTiming old fault new

-- If the result of `timing` is Ok, the whole capture was read, and then the text of its statistics
-- was written. After an error of the capture, nothing was written. After a failed write, a prefix
-- of the text was written.
abbrev pub Times : InputState → WriterState → Result (Unit {0}) ToolFault → InputState → WriterState → Type 0
Times old before result new after =
    CallPost
    (λ done. ReadsAll captures old new
    (λ halves. Appends before.contents after.contents (timing_text halves) × (new.halves + length halves ≡ old.halves)))
    (λ fault. StopsTiming old fault new × (after ≡ before))
    (ReadsAll captures old new (λ halves. AppendsFront before after (timing_text halves))) ⊥ before result after
