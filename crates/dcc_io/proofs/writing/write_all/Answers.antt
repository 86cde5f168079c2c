use Rattle.std.proofs.Common.{rules, arith, ◌∙◌}
use Rattle.std.proofs.lemmas.Result.{err_from_is_err_and}
use Rattle.std.proofs.lemmas.List.{append-nil, take_rest}
use Rattle.std.proofs.Math.Seq.{take-add}
use Rattle.std.proofs.KnownBytes.{Appends-kept, Appends-trans}
use Rattle.dcc_io.proofs.WrittenLemmas.{taken_some, taken_none, some_left, front_of, HasRisen-one_more}
use Rattle.dcc_io.proofs.writing.write_all.Goals as goal

pub returns-in_err-count : goal.returns-in_err-count
returns-in_err-count g c =
    let p = err_from_is_err_and c.from_residual.result c.from_residual.ensures.1 in
    rw p.1 (
      front_of c.args.bytes.now c.calls.done
          (Appends-kept _ _ _ _ c.calls.invariant.contents c.in_err-count.ensures.bytes),
      rw (← c.calls.invariant.failures, c.in_err-count.ensures.failures) (HasRisen-one_more _),
    )

pub returns-in-0 : goal.returns-in-0
returns-in-0 g c =
    let wrote = rw c.in-0.is at c.in_ok-count.ensures in (
      front_of c.args.bytes.now c.calls.done
          (rw append-nil at (Appends-trans _ _ _ _ _ c.calls.invariant.contents wrote.bytes)),
      rw (
        ← c.calls.invariant.failures,
        wrote.failures,
        taken_none _ _ (some_left c.args.bytes.now c.calls.done (omega arith)),
      ) (HasRisen-one_more _),
    )

pub calls-preserved : goal.calls-preserved
calls-preserved g c = record {
  within = search rules;
  contents =
      rw (take-add c.calls.done c.in_ok-count.count c.args.bytes.now)
      (Appends-trans _ _ _ _ _ c.calls.invariant.contents
      (rw (take_rest c.args.bytes.now c.calls.done) at c.in_ok-count.ensures.bytes));
  failures =
      c.in_ok-count.ensures.failures ∙ taken_some _ c.in_ok-count.count _ (search rules)
      ∙ c.calls.invariant.failures;
}
