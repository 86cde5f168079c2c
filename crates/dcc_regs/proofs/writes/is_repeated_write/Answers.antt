use Rattle.std.proofs.Common.{sym, ◌∙◌}
use Rattle.dcc_regs.proofs.SameWrites.{effective_by}
use Rattle.dcc_regs.proofs.writes.is_repeated_write.Goals as goal

pub returns-then-is_own_write : goal.returns-then-is_own_write
returns-then-is_own_write c =
    effective_by c.args.pending.now c.in-Some.before c.args.packet.now c.is_same_write.result c.in-Some.is
    (sym c.is_own_write.ensures.own ∙ c.if-is_own_write.true) c.is_same_write.ensures
