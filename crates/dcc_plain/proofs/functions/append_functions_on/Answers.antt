use Rattle.std.proofs.Common.{◌∙◌, sym, arith, ◌≡◌}
use Rattle.dcc_plain.proofs.FunctionLemmas.{Named-all, Named-off, Named-on}
use Rattle.dcc_plain.proofs.functions.append_functions_on.Goals as goal
use Rattle.dcc_plain.proofs.functions.append_functions_on.Goals.{then-is_on, else-is_on}

pub functions-preserved : goal.functions-preserved
functions-preserved c =
    let so_far = c.functions.invariant in
    elim c.if-is_on.branch [
      | then-is_on w ↦ rw (w.text-is, w.has_name-is) (
        omega (arith, c.functions-test.true),
        omega (arith, so_far.1, w.append_next_name.ensures.len),
        Named-on so_far.2 _ (sym w.if-is_on.true ∙ c.is_on.ensures) w.append_next_name.ensures.items,
      )
      | else-is_on w ↦ rw (w.text-is, w.has_name-is) (
        omega (arith, c.functions-test.true),
        omega (arith, so_far.1),
        Named-off so_far.2 (sym w.if-is_on.false ∙ c.is_on.ensures),
      )
    ]

pub returns-then-has_name-clause-items : goal.returns-then-has_name-clause-items
returns-then-has_name-clause-items c =
    let so_far = c.functions.invariant in
    let all : c.functions.passed ≡ c.args.count = omega (arith, so_far.0, c.functions-test.false) in
    Named-all _ so_far.2 all (rw c.if-has_name.true c.append.ensures.items)
