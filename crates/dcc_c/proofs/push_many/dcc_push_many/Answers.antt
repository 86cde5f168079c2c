use Rattle.std.proofs.Common.{◌++◌, ℕ, List, take, subst, sym}
use Rattle.std.proofs.Common.{IsTrue, refl, ◌∙◌, ap, arith, append-nil}
use Rattle.dcc_wire.specs.Framing.{StandsFor, seen, report_at}
use Rattle.dcc_wire.specs.Kept.{kept_rest}
use Rattle.dcc_c.proofs.ArrayLemmas.{last_place, one_more}
use Rattle.dcc_c.proofs.push_many.dcc_push_many.Goals as goal

pub halves-preserved : goal.halves-preserved
halves-preserved c =
    let one = λ (track : List ℕ). one_more track c.args.halves.now c.halves.at c.halves-test.true in
    let yes : IsTrue c.pass.result = grind arith in
    let passed = c.pass.ensures in record {
      within = omega (arith, c.halves-test.true);
      stands = λ track s. subst (StandsFor (kept_rest c.pass.new.self)) (one track)
          (passed.stands yes (track ++ take c.halves.at c.args.halves.now) (c.halves.invariant.stands track s));
      sees = λ track s. ap seen (sym (one track))
          ∙ passed.sees yes (track ++ take c.halves.at c.args.halves.now) (c.halves.invariant.stands track s)
          ∙ c.halves.invariant.sees track s;
      outcome = c.halves.invariant.outcome;
    }

pub returns-clause-sees : goal.returns-clause-sees
unfolding report_at
returns-clause-sees c track s = c.halves.invariant.sees track s ∙ sym (append-nil (seen track))

pub returns-in-halves-clause-sees : goal.returns-in-halves-clause-sees
returns-in-halves-clause-sees c track s =
    let here = track ++ take c.halves.at c.args.halves.now in
    let ended = rw (c.pass.ensures.left c.if-pass.false) at c.push_apart-ended.ensures.sees in
    ap seen (sym (one_more track c.args.halves.now c.halves.at c.halves-test.true))
    ∙ ended here (c.halves.invariant.stands track s)
    ∙ rw (c.halves.invariant.sees track s, last_place track c.args.halves.now c.halves.at c.halves-test.true) refl
