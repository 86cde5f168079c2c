use Rattle.dcc_regs.proofs.MaskLemmas.{values_differ, differing_values, not_equal, is_not_equal}
use Rattle.dcc_regs.proofs.aspects.Aspects.differs_from.Goals as goal

pub returns-then-self-other-ne0 : goal.returns-then-self-other-ne0
returns-then-self-other-ne0 c = (
  λ t. values_differ _ _ _ _ c.if-self-other-ne0.true (not_equal _ _ t),
  λ d. is_not_equal _ _
      (differing_values c.args.self.now.mask c.args.other.now.mask c.args.self.now.aspect c.args.other.now.aspect d).1,
)

pub returns-else-self-other-ne0 : goal.returns-else-self-other-ne0
returns-else-self-other-ne0 c = (
  λ t. absurd (not_equal _ _ t c.if-self-other-ne0.false),
  λ d. absurd
      ((differing_values c.args.self.now.mask c.args.other.now.mask c.args.self.now.aspect c.args.other.now.aspect d).0
      c.if-self-other-ne0.false),
)
