use Rattle.std.proofs.Common.{ap, ◌∙◌}
use Rattle.dcc_regs.specs.declared.loco_registers.LocoRegisters.{LocoRegisters}
use Rattle.dcc_regs.specs.LocoRegisters.{with_cvs}
use Rattle.dcc_regs.specs.LocoState.{is_state}
use Rattle.dcc_regs.proofs.loco_state.LocoState.is_possible.Goals as goal

pub returns : goal.returns
returns c =
    c.is_possible.ensures c.args.self.now.cvs
    ∙ ap (λ (r : LocoRegisters). is_state (with_cvs r c.args.self.now.cvs)) c.registers.ensures
