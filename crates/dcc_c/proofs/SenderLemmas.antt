-- A frame and a timing that nothing refuses.
use Rattle.std.proofs.Common.{◌≡◌, ℕ, List, refl}
use Rattle.dcc_c.specs.declared.timing.DccTiming.{DccTiming}
use Rattle.dcc_c.specs.Frames.{frame_answer}
use Rattle.dcc_c.specs.Senders.{sending_answer}
use Rattle.dcc_c.specs.Timings.{timing_answer}

pub no_fault : (frame : List ℕ) (timing : DccTiming) → timing_answer timing ≡ 0 → frame_answer frame ≡ 0
    → sending_answer frame timing ≡ 0
no_fault frame timing e f = rw (e, f) refl
