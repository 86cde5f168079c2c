-- Half-bits of a capture that a framer takes.
use Rattle.std.specs.Prelude.{◌≡◌, ℕ, ◌+◌, ◌-◌, ◌<◌, ◌++◌, List, [], Option, Some, None, Result, Ok, Err, length}
use Rattle.dcc_wire.specs.declared.framer.Framer.{Framer}
use Rattle.dcc_wire.specs.declared.seen.Seen.{Seen}
use Rattle.dcc_wire.specs.Framing.{StandsFor, seen, report_at}
use Rattle.dcc_io.specs.declared.fault.KeptFault.{KeptFault}
use Rattle.dcc_io.specs.InputState.{InputState}
use Rattle.dcc_capture.specs.Capture.{AnswersRun, GaveHalves}

-- The half-bits `given` are read between the states `old` and `new`, after the half-bits `pending`. A
-- framer in state `framer` takes the half-bits `some`, returns `shown` and goes to state `next`. The
-- half-bits `later` remain.
pub record Pushes (old : InputState) (pending : List ℕ) (framer : Framer) (shown : Seen) (new : InputState)
    (later : List ℕ) (next : Framer)
    : Type 0 where
  pub given : List ℕ
  pub gave : GaveHalves old given new
  pub some : List ℕ
  pub cut : pending ++ given ≡ some ++ later
  pub nonempty : 0 < length some
  pub at : ℕ
  pub stands : (halves : List ℕ) → StandsFor framer halves → StandsFor next (halves ++ some)
  pub sees : (halves : List ℕ) → StandsFor framer halves
      → seen (halves ++ some) ≡ seen halves ++ report_at (length halves + at - 1) shown
  pub fewer : new.bytes + length later < old.bytes + length pending

-- if the result is an outcome, `framer` took some half-bits of a capture. The result is `None` at the
-- end of the capture, or an error of the capture. In these two cases no half-bit is pending.
abbrev pub PushesNext : InputState → List ℕ → Framer → Result (Option Seen) KeptFault → InputState → List ℕ → Framer
    → Type 0
PushesNext old pending framer (Ok (Some shown)) new later next = Pushes old pending framer shown new later next
PushesNext old pending framer (Ok None) new later next =
    (pending ≡ []) × (later ≡ []) × AnswersRun old (Ok None) new
PushesNext old pending framer (Err fault) new later next = (pending ≡ []) × AnswersRun old (Err fault) new
