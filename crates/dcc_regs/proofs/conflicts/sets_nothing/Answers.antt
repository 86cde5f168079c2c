use Rattle.std.proofs.Common.{◌∙◌}
use Rattle.dcc_regs.specs.declared.register.SpeedMode.TheVariants.{Steps14}
use Rattle.dcc_regs.proofs.EffectLemmas.{in_both_modes}
use Rattle.dcc_regs.proofs.conflicts.sets_nothing.Goals as goal

pub returns-then-is_nothing : goal.returns-then-is_nothing
returns-then-is_nothing c = (
  λ t. in_both_modes _ _ c.args.packet.now c.of.ensures c.of-then-is_nothing.ensures
      (c.is_nothing.ensures.0 c.if-is_nothing.true) (c.is_nothing-then-is_nothing.ensures.0 t),
  λ none. c.is_nothing-then-is_nothing.ensures.1 (λ r. c.of-then-is_nothing.ensures r ∙ none Steps14 r),
)
