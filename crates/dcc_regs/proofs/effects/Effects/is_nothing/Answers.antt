use Rattle.std.proofs.Common.{◌≡◌, true, false, sym, ◌∙◌}
use Rattle.dcc_regs.proofs.EffectLemmas.{nothing_set, none_at_locos, none_at_boards}
use Rattle.dcc_regs.proofs.effects.Effects.is_nothing.Goals as goal

pub returns-then-is_nothing_at_locos : goal.returns-then-is_nothing_at_locos
returns-then-is_nothing_at_locos c = (
  λ t. nothing_set _ (c.is_nothing_at_locos.ensures.0 c.if-is_nothing_at_locos.true)
      (c.is_nothing_at_boards.ensures.0 t),
  λ none. c.is_nothing_at_boards.ensures.1 (none_at_boards _ none),
)

pub returns-else-is_nothing_at_locos : goal.returns-else-is_nothing_at_locos
returns-else-is_nothing_at_locos c = (
  λ t. absurd (let e : true ≡ false = sym t ∙ c.if-is_nothing_at_locos.false in cc),
  λ none. c.is_nothing_at_locos.ensures.1 (none_at_locos _ none),
)
