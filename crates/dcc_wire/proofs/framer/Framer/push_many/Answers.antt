use Rattle.std.proofs.Common.{◌≡◌, rules}
use Rattle.dcc_wire.specs.declared.seen.Seen.TheVariants.{Nothing}
use Rattle.dcc_wire.proofs.ListLemmas.{quiet_list, sees_nothing, takes_nothing, takes_on}
use Rattle.dcc_wire.proofs.framer.Framer.push_many.Goals as goal

-- the half-bits up to one with an outcome

pub returns-then-not-is_nothing-clause-stands : goal.returns-then-not-is_nothing-clause-stands
returns-then-not-is_nothing-clause-stands c =
    (takes_on c.args.halves.now c.halves.at c.push_some_of-some.result c.halves.invariant.1 c.halves.invariant.0
    c.push_some_of-some.ensures).stands

pub returns-then-not-is_nothing-clause-sees : goal.returns-then-not-is_nothing-clause-sees
returns-then-not-is_nothing-clause-sees c =
    (takes_on c.args.halves.now c.halves.at c.push_some_of-some.result c.halves.invariant.1 c.halves.invariant.0
    c.push_some_of-some.ensures).sees

pub returns-then-not-is_nothing-clause-before : goal.returns-then-not-is_nothing-clause-before
returns-then-not-is_nothing-clause-before c =
    (takes_on c.args.halves.now c.halves.at c.push_some_of-some.result c.halves.invariant.1 c.halves.invariant.0
    c.push_some_of-some.ensures).before

-- no outcome so far

pub halves-preserved : goal.halves-preserved
halves-preserved c =
    let nothing : c.push_some_of-some.result.seen ≡ Nothing = c.is_nothing.ensures.0 (search rules) in
    let some = takes_on c.args.halves.now c.halves.at c.push_some_of-some.result c.halves.invariant.1
    c.halves.invariant.0 c.push_some_of-some.ensures in
    (takes_nothing c.args.halves.now _ some nothing, some.some.1)

pub returns-clause-sees : goal.returns-clause-sees
returns-clause-sees c = sees_nothing c.args.halves.now c.halves.at c.halves.invariant.0

pub returns-clause-before : goal.returns-clause-before
returns-clause-before c = quiet_list c.args.halves.now c.halves.at c.halves.invariant.0
