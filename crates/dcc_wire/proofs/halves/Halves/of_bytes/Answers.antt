use Rattle.std.proofs.Common.{length, ap, ◌∙◌}
use Rattle.dcc_wire.proofs.SendingLemmas.{length-sent}
use Rattle.dcc_wire.proofs.StepLemmas.{all_left}
use Rattle.dcc_wire.proofs.halves.Halves.of_bytes.Goals as goal

pub returns-clause-halves : goal.returns-clause-halves
returns-clause-halves c =
    rw c.body_word-bits.ensures.halves
    (all_left c.args.bytes.now c.args.timing.now c.body_word-bits.result.0 c.body_word-bits.ensures.bits)

pub returns-clause-count : goal.returns-clause-count
returns-clause-count c = ap length (returns-clause-halves c) ∙ length-sent c.args.bytes.now c.args.timing.now
