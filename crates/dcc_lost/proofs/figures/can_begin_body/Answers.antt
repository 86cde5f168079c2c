use Rattle.std.proofs.Common.{◌≡◌, inl, inr, arith}
use Rattle.std.proofs.lemmas.Bool.{cases_lt}
use Rattle.dcc_lost.proofs.figures.can_begin_body.Goals as goal

pub bodies-init : goal.bodies-init
bodies-init c = record {
  least = omega arith;
  most = omega arith;
  none = λ m least below. absurd (omega (arith, least, below));
}

pub bodies-preserved : goal.bodies-preserved
bodies-preserved c = record {
  least = omega (arith, c.bodies.invariant.least);
  most = omega (arith, c.bodies-test.true);
  none = λ m least below begins. elim (cases_lt m c.bodies.bytes) [
    | inl before ↦ c.bodies.invariant.none m least before begins
    | inr here ↦
        let same : m ≡ c.bodies.bytes = omega (arith, below, here) in
        let yes = c.begins_body.ensures.1 (rw same at begins) in absurd (grind arith)
  ];
}

pub returns-then-begins_body : goal.returns-then-begins_body
returns-then-begins_body c = (
  λ yes. (
    c.bodies.bytes,
    c.bodies.invariant.least,
    omega (arith, c.bodies-test.true),
    c.begins_body.ensures.0 (grind arith),
  ),
  λ can. grind arith,
)

pub returns : goal.returns
returns c = (
  λ yes. absurd (grind arith),
  λ can. absurd (c.bodies.invariant.none can.0 can.1 (omega (arith, can.2, c.bodies-test.false)) can.3),
)
