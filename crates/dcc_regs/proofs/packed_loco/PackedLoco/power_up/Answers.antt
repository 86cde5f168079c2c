use Rattle.std.proofs.Common.{refl, ◌∙◌}
use Rattle.dcc_regs.specs.LocoRegisters.{with_cvs}
use Rattle.dcc_regs.specs.LocoState.{loco_state_content}
use Rattle.dcc_regs.proofs.CvLemmas.{powered_up-loco, who-powered_up}
use Rattle.dcc_regs.proofs.packed_loco.PackedLoco.power_up.Goals as goal

pub returns-clause-who : goal.returns-clause-who
returns-clause-who c =
    c.new-self.ensures.who
    ∙ who-powered_up (loco_state_content (with_cvs c.args.self.now.registers c.args.self.now.cvs)) c.args.self.now.cvs
    c.lemma_cvs.ensures refl

pub returns-clause-registers : goal.returns-clause-registers
returns-clause-registers c =
    c.new-self.ensures.registers
    ∙ powered_up-loco (loco_state_content (with_cvs c.args.self.now.registers c.args.self.now.cvs))
