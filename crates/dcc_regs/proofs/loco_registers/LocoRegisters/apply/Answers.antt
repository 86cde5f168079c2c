use Rattle.std.proofs.Common.{◌≡◌, true, sym, ◌∙◌}
use Rattle.dcc_regs.specs.declared.register.Who.TheVariants.{Loco as LocoWho}
use Rattle.dcc_regs.specs.Heard.{hears}
use Rattle.dcc_regs.specs.Loco.{loco_registers}
use Rattle.dcc_regs.specs.LocoRegisters.{with_cvs}
use Rattle.dcc_regs.specs.LocoState.{loco_state_content}
use Rattle.dcc_regs.proofs.LocoStep.{step-heard}
use Rattle.dcc_regs.proofs.RegisterStep.{kept-after}
use Rattle.dcc_regs.proofs.loco_registers.LocoRegisters.apply.Goals as goal

pub returns-clause-step : goal.returns-clause-step
returns-clause-step c =
    let heard : hears (LocoWho c.args.self.now.address) c.args.packet.now ≡ true =
    sym c.hears.ensures ∙ c.if-not-hears.false in
    step-heard (LocoWho c.args.self.now.address) c.args.packet.now c.mode-mode.result (loco_state_content
    (with_cvs c.args.self.now c.args.cvs.now)) _ heard
    (record {
      reads = c.mode-mode.ensures;
      speed = c.obey.ensures.speed;
      forward = c.obey.ensures.forward;
      functions = c.obey.ensures.functions;
      states = c.obey.ensures.states;
      cvs = c.hear.ensures;
      pending = c.obey.ensures.pending;
    })

pub returns-clause-kept : goal.returns-clause-kept
returns-clause-kept c =
    kept-after (LocoWho c.args.self.now.address) (loco_registers (loco_state_content
    (with_cvs c.args.self.now c.args.cvs.now))) _ c.args.packet.now
    (returns-clause-step c)

pub returns-clause-possible : goal.returns-clause-possible
returns-clause-possible c was =
    c.obey.ensures.possible c.args.cvs.now c.hear.new.cvs (sym c.hears.ensures ∙ c.if-not-hears.false) was
