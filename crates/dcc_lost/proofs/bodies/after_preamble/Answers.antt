use Rattle.std.proofs.Common.{◌≡◌, [], replicate, arith, ap, ◌∙◌, subst}
use Rattle.std.proofs.lemmas.List.{replicate_more}
use Rattle.dcc_wire.specs.Framing.{StandsFor}
use Rattle.dcc_wire.specs.Kept.{kept_rest}
use Rattle.dcc_lost.proofs.BodyLemmas.{twenty_ones}
use Rattle.dcc_lost.proofs.bodies.after_preamble.Goals as goal

pub ones-init : goal.ones-init
ones-init c = record {
  few = omega arith;
  stands = c.new-framer.ensures.stands;
}

pub ones-preserved : goal.ones-preserved
ones-preserved c = record {
  few = omega arith;
  stands = subst (StandsFor (kept_rest c.push.new.self))
      (replicate_more c.ones.ones 58 ∙ ap (λ k. replicate k 58) (omega arith))
      (c.push.ensures.stands (replicate c.ones.ones 58) c.ones.invariant.stands);
}

pub returns : goal.returns
returns c =
    let all : c.ones.ones ≡ 20 = omega (arith, c.ones.invariant.few, c.ones-test.false) in
    twenty_ones _ (subst (λ k. StandsFor (kept_rest c.ones.framer) (replicate k 58)) all c.ones.invariant.stands)
