use Rattle.std.proofs.Common.{sym, ◌∙◌}
use Rattle.dcc_regs.proofs.MeetLemmas.{together_loco, together_board, by_together, or_else}
use Rattle.dcc_regs.proofs.hearers.heard_together.Goals as goal

pub returns-then-some_loco_hears : goal.returns-then-some_loco_hears
returns-then-some_loco_hears c =
    (λ t. together_loco _ _ (sym c.some_loco_hears.ensures ∙ t), λ h. c.if-some_loco_hears.true)

pub returns-else-some_loco_hears : goal.returns-else-some_loco_hears
returns-else-some_loco_hears c = (
  λ t. together_board _ _ (sym c.some_board_hears.ensures ∙ t),
  λ h. c.some_board_hears.ensures
      ∙ or_else _ _ (by_together _ _ h) (sym c.some_loco_hears.ensures ∙ c.if-some_loco_hears.false),
)
