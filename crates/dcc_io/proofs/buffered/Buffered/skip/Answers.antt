use Rattle.dcc_io.proofs.BufferedLemmas.{slice_range-skip, consumes_front, stays_unknown}
use Rattle.dcc_io.proofs.buffered.Buffered.skip.Goals as goal

pub returns-clause-ahead : goal.returns-clause-ahead
returns-clause-ahead g c =
    rw (← c.self.view_is)
    (slice_range-skip c.self.inside.buffer c.self.inside.start c.args.count c.self.inside.end c.self.invariant.0
    (rw (← c.self.view_is) at c.requires))

pub returns-clause-text : goal.returns-clause-text
returns-clause-text g c =
    let ahead = slice_range-skip c.self.inside.buffer c.self.inside.start c.args.count c.self.inside.end
    c.self.invariant.0
    (rw (← c.self.view_is) at c.requires) in
    rw (← c.self.view_is, ahead) (consumes_front _ c.args.count _)

pub returns-clause-unknown : goal.returns-clause-unknown
returns-clause-unknown g c = rw (← c.self.view_is) (λ unknown. stays_unknown _ _ _ unknown)
