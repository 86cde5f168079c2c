use Rattle.std.proofs.Common.{◌∙◌, subst}
use Rattle.std.proofs.lemmas.Result.{IfOk-weaker, IfErr-weaker}
use Rattle.dcc_order.specs.Verdicts.{IsVerdict}
use Rattle.dcc_listen.proofs.GatherFirstLemmas.{gathers_both, second_fails}
use Rattle.dcc_listen.proofs.InStepLemmas.{all_held, beside_fails, gathered}
use Rattle.dcc_listen.proofs.same_input_call.compare_both.Goals as goal

pub returns-clause-compared : goal.returns-clause-compared
returns-clause-compared g c =
    IfOk-weaker c.compare_in_step.result _ _ (λ verdict compared. let (held, others, first, second, is) = compared in (
      c.in_ok-gather_first.field-0.items,
      others,
      gathers_both c.args.input.now c.gather_first.new.input c.in_ok-gather_first.field-0.items
          c.in_ok-gather_first.ensures.gathers c.compare_in_step.new.right others
          (gathered c.gather_first.new.input c.compare_in_step.new.right others second),
      subst (λ l. IsVerdict c.args.who l others verdict) (all_held _ _ held first ∙ c.into_iter-packets.ensures.rest)
          is,
    )) c.compare_in_step.ensures.compared

pub returns-clause-fails : goal.returns-clause-fails
returns-clause-fails g c =
    IfErr-weaker c.compare_in_step.result _ _ (λ fault fails.
    second_fails c.args.input.now c.gather_first.new.input c.in_ok-gather_first.field-0.items
    c.in_ok-gather_first.ensures.gathers c.compare_in_step.new.right fault
    (beside_fails c.gather_first.new.input c.compare_in_step.new.right _ fault fails)) c.compare_in_step.ensures.fails
