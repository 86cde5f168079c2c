use Rattle.dcc_io.proofs.BufferedLemmas.{slice_range-skip}
use Rattle.dcc_listen.proofs.pending.Pending.skip.Goals as goal

pub returns : goal.returns
returns c =
    rw (← c.self.view_is)
    (slice_range-skip c.self.inside.halves c.self.inside.start c.args.count c.self.inside.end c.self.invariant.0
    (rw (← c.self.view_is) at c.requires))
