use Rattle.std.proofs.Common.{◌∙◌, ap, unwrap_or}
use Rattle.dcc_packet.specs.Bits.{is_one}
use Rattle.dcc_regs.specs.declared.loco_state.LocoState.{LocoState}
use Rattle.dcc_regs.specs.LocoRegisters.{with_cvs}
use Rattle.std.proofs.lemmas.Bool.Decides.{Decides-ltb}
use Rattle.dcc_regs.proofs.PossibleLemmas.{parts_of, of_parts, speed_kept, states_kept}
use Rattle.dcc_regs.proofs.LocoStep.{pending-heard}
use Rattle.dcc_regs.proofs.loco_registers.LocoRegisters.obey.Goals as goal

pub returns-clause-speed : goal.returns-clause-speed
returns-clause-speed c = rw (← c.speed_set.ensures.speed) c.unwrap_or-self.ensures

pub returns-clause-forward : goal.returns-clause-forward
returns-clause-forward c = rw (← c.direction_set.ensures) c.unwrap_or-self-2.ensures

pub returns-clause-functions : goal.returns-clause-functions
returns-clause-functions c n fits = c.functions_in-self.ensures.bits n fits ∙ c.over.ensures n
    ∙ ap (λ set. unwrap_or set (is_one c.args.self.now.functions n)) (c.functions_set.ensures n)

pub returns-clause-states : goal.returns-clause-states
returns-clause-states c n fits = c.over-self.ensures n
    ∙ ap (λ set. unwrap_or set (is_one c.args.self.now.states n)) (c.states_set.ensures n)

pub returns-clause-possible : goal.returns-clause-possible
returns-clause-possible c cvs after heard was =
    let before = parts_of (with_cvs c.args.self.now cvs) was in
    let now : LocoState = record {
      address = c.args.self.now.address;
      speed = c.unwrap_or-self.result;
      forward = c.unwrap_or-self-2.result;
      functions = c.functions_in-self.result;
      states = c.over-self.result;
      pending = c.leave_pending.new.pending;
      cvs = after;
    } in
    of_parts now (record {
      active = before.active;
      speed = speed_kept _ _ _ c.speed_set.ensures.step before.speed c.unwrap_or-self.ensures;
      functions = (Decides-ltb _ _).1 c.functions_in-self.ensures.small;
      states = states_kept c.args.packet.now _ _ (c.over-self.ensures 0
          ∙ ap (λ set. unwrap_or set (is_one c.args.self.now.states 0)) (c.states_set.ensures 0)) before.states;
      pending = pending-heard c.args.self.now.address c.args.packet.now c.leave_pending.new.pending heard
          c.leave_pending.ensures.byte c.leave_pending.ensures.pending;
    })
