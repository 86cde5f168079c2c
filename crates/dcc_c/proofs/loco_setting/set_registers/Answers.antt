use Rattle.std.proofs.Common.{◌≡◌, Bool, ◌∙◌, ap, subst}
use Rattle.std.specs.Prelude.{Option, unwrap_or, IfSome, true}
use Rattle.dcc_packet.specs.Bits.{is_one}
use Rattle.dcc_regs.specs.declared.register.Speed.{Speed}
use Rattle.dcc_regs.specs.Loco.{is_speed}
use Rattle.dcc_regs.specs.Speeds.{direction_set}
use Rattle.dcc_c.specs.declared.loco_numbers.DccLocoRegisters.{DccLocoRegisters}
use Rattle.dcc_c.specs.Locos.{speed_mode, speed_step}
use Rattle.dcc_c.proofs.HeardLemmas.{set_numbers}
use Rattle.dcc_c.proofs.loco_setting.set_registers.Goals as goal

pub returns : goal.returns
returns c before small e =
    let put : c.put_speed.new.numbers
    ≡ record c.args.numbers.now {
      speed_mode = speed_mode (unwrap_or c.speed_set.result before.speed);
      step = speed_step (unwrap_or c.speed_set.result before.speed);
    } =
    c.put_speed.ensures before.speed (ap (λ (n : DccLocoRegisters). n.speed_mode) e)
    (ap (λ (n : DccLocoRegisters). n.step) e) in
    let f = c.set_functions.ensures before.functions
    (ap (λ (n : DccLocoRegisters). n.functions) put ∙ ap (λ (n : DccLocoRegisters). n.functions) e) small in
    let s = c.set_states.ensures before.states
    (ap (λ (n : DccLocoRegisters). n.states) put ∙ ap (λ (n : DccLocoRegisters). n.states) e) in
    record {
      functions = f.0;
      states = s.0;
      is = set_numbers c.args.mode c.args.packet.now before c.args.numbers.now c.put_speed.new.numbers
          c.unwrap_or-numbers.result f.0 s.0 c.set_functions.new.words c.set_states.new.words e
          (rw c.speed_set.ensures.speed at put)
          (c.unwrap_or-numbers.ensures
          ∙ ap (λ (set : Option Bool). unwrap_or set c.put_speed.new.numbers.forward) c.direction_set.ensures
          ∙ ap (unwrap_or (direction_set c.args.packet.now))
          (ap (λ (n : DccLocoRegisters). n.forward) put ∙ ap (λ (n : DccLocoRegisters). n.forward) e)) f.1 s.1;
      small = f.2;
      each_function = λ n few. f.3 n few
          ∙ ap (λ set. unwrap_or set (is_one before.functions n)) (c.functions_set.ensures n);
      each_state = λ n. s.2 n ∙ ap (λ set. unwrap_or set (is_one before.states n)) (c.states_set.ensures n);
      step = subst (λ (set : Option Speed). IfSome set (λ speed. is_speed speed ≡ true)) c.speed_set.ensures.speed
          c.speed_set.ensures.step;
    }
