use Rattle.std.proofs.Common.{◌≡◌, true, ℕ, sym, ◌∙◌, ap, subst}
use Rattle.std.specs.Prelude.{Option, Some}
use Rattle.dcc_packet.specs.declared.cv.CvNumber.{CvNumber}
use Rattle.dcc_packet.specs.StoredCvs.{with_value}
use Rattle.dcc_regs.specs.declared.register.Who.TheVariants.{Loco as LocoWho}
use Rattle.dcc_regs.specs.AccessedCv.{AreStored}
use Rattle.dcc_regs.specs.Heard.{hears}
use Rattle.dcc_regs.specs.Loco.{loco_registers}
use Rattle.dcc_regs.specs.LocoRegisters.{with_cvs}
use Rattle.dcc_regs.specs.LocoState.{loco_state_content, loco_map}
use Rattle.dcc_regs.specs.Result.{mode_of, step}
use Rattle.dcc_regs.specs.declared.register.Value.TheVariants.{Flag}
use Rattle.dcc_packet.specs.Bits.{is_one}
use Rattle.dcc_packet.specs.StoredCvs.{HasValue}
use Rattle.dcc_regs.proofs.LocoStep.{step-heard}
use Rattle.dcc_regs.proofs.RegisterStep.{kept-after}
use Rattle.dcc_regs.proofs.StoredCvLemmas.{accessed-heard, heard_cv, stored_after, stored_bits}
use Rattle.dcc_regs.proofs.StoredCvLemmas.{value_kept}
use Rattle.dcc_regs.proofs.loco_registers.LocoRegisters.apply_with_value.Goals as goal

pub returns-clause-step : goal.returns-clause-step
returns-clause-step c cvs stored =
    let who = LocoWho c.args.self.now.address in
    let heard : hears who c.args.packet.now ≡ true = sym c.hears.ensures ∙ c.if-not-hears.false in
    let e = accessed-heard c.args.self.now.address c.args.self.now.pending c.args.packet.now heard in
    let there : HasValue cvs (heard_cv c.args.self.now.pending c.args.packet.now) c.args.value.now =
    subst (λ (cv : Option CvNumber). HasValue cvs cv c.args.value.now) e stored.accessed in
    subst (λ (cv : Option CvNumber).
    loco_map (with_cvs c.obey.new.self (with_value cvs cv c.hear.new.value))
    ≡ step who (loco_map (with_cvs c.args.self.now cvs)) c.args.packet.now) (sym e)
    (step-heard who c.args.packet.now c.mode_of-mode.result (loco_state_content (with_cvs c.args.self.now cvs)) _ heard
    (record {
      reads = c.mode_of-mode.ensures ∙ ap (λ (b : ℕ). mode_of (Some (Flag (is_one b 1)))) (sym stored.mode);
      speed = c.obey.ensures.speed;
      forward = c.obey.ensures.forward;
      functions = c.obey.ensures.functions;
      states = c.obey.ensures.states;
      cvs = λ n k low here.
          stored_bits c.args.self.now.pending c.args.packet.now cvs c.args.value.now c.hear.new.value n k stored.all
          there
          c.hear.ensures.bits low here;
      pending = c.obey.ensures.pending;
    }))

pub returns-clause-kept : goal.returns-clause-kept
returns-clause-kept c cvs stored =
    kept-after (LocoWho c.args.self.now.address) (loco_registers (loco_state_content (with_cvs c.args.self.now cvs))) _
    c.args.packet.now
    (returns-clause-step c cvs stored)

pub returns-clause-value_stays : goal.returns-clause-value_stays
returns-clause-value_stays c none =
    let heard : hears (LocoWho c.args.self.now.address) c.args.packet.now ≡ true =
    sym c.hears.ensures ∙ c.if-not-hears.false in
    value_kept c.args.self.now.pending c.args.packet.now _ _
    (sym (accessed-heard c.args.self.now.address c.args.self.now.pending c.args.packet.now heard) ∙ none)
    c.hear.ensures.stays c.hear.ensures.other

pub returns-clause-stored : goal.returns-clause-stored
returns-clause-stored c cvs stored =
    let heard : hears (LocoWho c.args.self.now.address) c.args.packet.now ≡ true =
    sym c.hears.ensures ∙ c.if-not-hears.false in
    let e = accessed-heard c.args.self.now.address c.args.self.now.pending c.args.packet.now heard in
    subst (λ (cv : Option CvNumber).
    AreStored (with_value cvs cv c.hear.new.value) c.hear.new.cv29 cv c.hear.new.value) (sym e)
    (stored_after c.args.self.now.pending c.args.packet.now cvs c.args.cv29.now c.hear.new.cv29 c.args.value.now
    c.hear.new.value
    (subst (λ (cv : Option CvNumber). AreStored cvs c.args.cv29.now cv c.args.value.now) e stored)
    c.hear.ensures.byte c.hear.ensures.mode)

pub returns-clause-possible : goal.returns-clause-possible
returns-clause-possible c cvs after was =
    c.obey.ensures.possible cvs after (sym c.hears.ensures ∙ c.if-not-hears.false) was
