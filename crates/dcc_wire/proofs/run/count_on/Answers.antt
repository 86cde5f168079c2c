use Rattle.std.proofs.Common.{◌<◌, inl, inr, arith}
use Rattle.dcc_wire.specs.Runs.{ones_after}
use Rattle.dcc_wire.proofs.RunLemmas.{ones_after_one}
use Rattle.dcc_wire.proofs.run.count_on.Goals as goal

pub returns-then-n-eq0 : goal.returns-then-n-eq0
unfolding ones_after
returns-then-n-eq0 c = rw c.if-n-eq0.true

pub returns-in-One : goal.returns-in-One
returns-in-One c =
    rw (c.in-One.is, ones_after_one c.args.ones c.args.n (omega (arith, c.if-n-eq0.false)))
    (omega (arith, c.min.ensures, c.saturating_add.ensures, c.from.ensures))

pub returns-in-Zero : goal.returns-in-Zero
unfolding ones_after
returns-in-Zero c =
    let some : 0 < c.args.n = omega (arith, c.if-n-eq0.false) in
    elim c.in-Zero.is [ inl e ↦ rw e (grind arith) | inr e ↦ rw e (grind arith) ]
