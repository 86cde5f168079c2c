use Rattle.dcc_regs.proofs.ConflictLemmas.{conflict_from, differ_of}
use Rattle.dcc_regs.proofs.conflicts.conflict.Goals as goal

pub returns-then-heard_together : goal.returns-then-heard_together
returns-then-heard_together c = (
  λ t. conflict_from _ _ (c.heard_together.ensures.0 c.if-heard_together.true) (c.differ_in_some_mode.ensures.0 t),
  λ k. c.differ_in_some_mode.ensures.1 (differ_of _ _ k),
)
