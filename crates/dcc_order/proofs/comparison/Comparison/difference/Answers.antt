use Rattle.std.proofs.Common.{◌∙◌, sym, refl, inr}
use Rattle.std.proofs.lemmas.Bool.{true≢false}
use Rattle.dcc_order.proofs.comparison.Comparison.difference.Goals as goal

pub returns-then-not-has_same_order-clause-found : goal.returns-then-not-has_same_order-clause-found
returns-then-not-has_same_order-clause-found c = inr (
  c.has_same_members.ensures.same.0 c.if-not-has_same_members.false,
  (λ order. true≢false
      (sym (c.has_same_order.ensures.same.1 (rw c.has_same_members.ensures.unchanged order))
      ∙ c.if-not-has_same_order.true)),
  refl,
)

pub returns-clause-found : goal.returns-clause-found
returns-clause-found c = record {
  members = c.has_same_members.ensures.same.0 c.if-not-has_same_members.false;
  order = rw c.has_same_members.ensures.unchanged at (c.has_same_order.ensures.same.0 c.if-not-has_same_order.false);
}
