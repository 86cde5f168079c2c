use Rattle.std.proofs.Common.{ap}
use Rattle.dcc_wire.specs.Kept.{kept_rest}
use Rattle.dcc_wire.proofs.ListLemmas.{passes_some}
use Rattle.dcc_wire.proofs.KeptLemmas.{hunted_on}
use Rattle.dcc_wire.proofs.kept.KeptFramer.pass_some.Goals as goal

pub returns-then-self-clause-passes : goal.returns-then-self-clause-passes
returns-then-self-clause-passes c =
    passes_some c.args.halves.now c.pass_bits.result c.pass_bits.ensures.passes
    (λ none. ap kept_rest (c.pass_bits.ensures.left none))

pub invariant_of-self : goal.invariant_of-self
invariant_of-self c = hunted_on c.self.invariant c.if-self.false _ _ c.hunt-hunted.ensures.passes

pub returns-clause-is : goal.returns-clause-is
returns-clause-is c = invariant_of-self c
