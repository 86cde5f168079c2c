use Rattle.std.proofs.Common.{refl}
use Rattle.dcc_c.proofs.HeardLemmas.{not_effective, obeyed}
use Rattle.dcc_c.proofs.loco.obey.Goals as goal

pub returns : goal.returns
returns c =
    obeyed c.args.packet.now c.args.loco.now
    (record { registers = c.set_registers.new.numbers; cvs = c.args.loco.now.cvs })
    c.leave_pending.new.pending c.mode_of-mode.result c.mode_of-mode.ensures c.leave_pending.ensures.pending
    c.leave_pending.ensures.byte
    (λ held e cv place low here.
    let first = not_effective held c.args.packet.now c.args.loco.now.registers.pending c.args.frame.now c.requires.valid
    c.requires.spelled e c.requires.other in
    rw first refl)
    c.set_registers.ensures
