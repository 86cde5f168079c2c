use Rattle.dcc_c.proofs.SenderLemmas.{no_fault}
use Rattle.dcc_c.proofs.sender.started.Goals as goal

pub returns : goal.returns
returns c = (
  no_fault c.args.frame.now c.args.timing.now c.in_ok-timing.ensures.1 c.in_ok-check_frame.ensures.1,
  (c.in_ok-timing.timing, c.in_ok-timing.ensures.0, c.of_bytes.ensures.halves),
  c.in_ok-check_frame.ensures.0,
)
