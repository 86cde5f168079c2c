use Rattle.std.proofs.Common.{ap₂, sym, ◌∙◌}
use Rattle.dcc_regs.specs.declared.register.Who.TheVariants.{Loco as LocoWho}
use Rattle.dcc_regs.specs.declared.register.Who.{Who}
use Rattle.dcc_regs.specs.Loco.{loco_registers}
use Rattle.dcc_regs.specs.LocoDecoder.{loco_content}
use Rattle.dcc_regs.specs.Result.{RegisterMap, step}
use Rattle.dcc_regs.proofs.LocoStep.{step-unheard}
use Rattle.dcc_regs.proofs.RegisterStep.{kept-after}
use Rattle.dcc_regs.proofs.loco.LocoDecoderDecoder.apply.Goals as goal

pub returns-clause-step : goal.returns-clause-step
returns-clause-step c =
    let before = c.registers-registers.ensures in
    c.put.ensures.registers ∙ c.apply-heard.ensures.step
    ∙ sym (ap₂ (λ (who : Who) (map : RegisterMap). step who map c.args.packet.now) before.who before.registers)

pub returns-clause-unheard : goal.returns-clause-unheard
returns-clause-unheard c unheard =
    returns-clause-step c
    ∙ sym (step-unheard (LocoWho c.args.self.now.address) c.args.packet.now
    (loco_registers (loco_content c.args.self.now))
    unheard)

pub returns-clause-kept : goal.returns-clause-kept
returns-clause-kept c =
    kept-after (LocoWho c.args.self.now.address) (loco_registers (loco_content c.args.self.now)) _ c.args.packet.now
    (returns-clause-step c)
