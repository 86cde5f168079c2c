use Rattle.std.proofs.Common.{sym, ◌∙◌, ap}
use Rattle.dcc_c.specs.Frames.{frame_numbers}
use Rattle.dcc_c.specs.Locos.{pending_numbers}
use Rattle.dcc_c.proofs.HeardLemmas.{left_none, left_own}
use Rattle.dcc_c.proofs.loco.leave_pending.Goals as goal

pub returns-then-is_own_write-clause-pending : goal.returns-then-is_own_write-clause-pending
returns-then-is_own_write-clause-pending c =
    c.of.ensures ∙ ap frame_numbers (sym c.requires.spelled)
    ∙ sym (ap pending_numbers (left_own c.args.packet.now (sym c.is_own_write.ensures.own ∙ c.if-is_own_write.true)))

pub returns-else-is_own_write-clause-pending : goal.returns-else-is_own_write-clause-pending
returns-else-is_own_write-clause-pending c =
    c.none.ensures
    ∙ sym (ap pending_numbers (left_none c.args.packet.now (sym c.is_own_write.ensures.own ∙ c.if-is_own_write.false)))
