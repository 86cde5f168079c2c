use Rattle.std.proofs.Common.{refl, ◌∙◌}
use Rattle.dcc_regs.specs.LocoDecoder.{loco_content}
use Rattle.dcc_regs.proofs.CvLemmas.{powered_up-loco, who-powered_up}
use Rattle.dcc_regs.proofs.loco.LocoDecoder.power_up.Goals as goal

pub returns-clause-who : goal.returns-clause-who
returns-clause-who c =
    c.new.ensures.who ∙ who-powered_up (loco_content c.args.self.now) c.args.self.now.cvs c.lemma_cvs.ensures refl

pub returns-clause-registers : goal.returns-clause-registers
returns-clause-registers c = c.new.ensures.registers ∙ powered_up-loco (loco_content c.args.self.now)
