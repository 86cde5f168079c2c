use Rattle.std.proofs.Common.{◌≡◌, true, false, sym, ◌∙◌}
use mathlib.Core.Logic.{inl, inr}
use Rattle.dcc_regs.proofs.EffectLemmas.{at_locos, at_boards, somewhere}
use Rattle.dcc_regs.proofs.effects.Effects.differs_from.Goals as goal

pub returns-then-differs_at_locos : goal.returns-then-differs_at_locos
returns-then-differs_at_locos c =
    (λ t. at_locos _ _ (c.differs_at_locos.ensures.0 t), λ d. c.if-differs_at_locos.true)

pub returns-else-differs_at_locos : goal.returns-else-differs_at_locos
returns-else-differs_at_locos c = (
  λ t. at_boards _ _ (c.differs_at_boards.ensures.0 t),
  λ d. elim (somewhere c.args.self.now c.args.other.now d.0 d.1) [
    | inl at ↦ absurd (let t : true ≡ false = sym (c.differs_at_locos.ensures.1 at) ∙ c.if-differs_at_locos.false in cc)
    | inr at ↦ c.differs_at_boards.ensures.1 at
  ],
)
