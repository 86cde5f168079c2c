use Rattle.dcc_c.proofs.PossibleLocoLemmas.{holds_state, powered}
use Rattle.dcc_c.proofs.possible_loco.PossibleLoco.power_up.Goals as goal

pub invariant_of-self : goal.invariant_of-self
invariant_of-self c =
    let h = c.dcc_loco_power_up.ensures.new in
    record { held = holds_state c.dcc_loco_power_up.new.loco h.0 h.1 h.2 }

pub returns-clause-state : goal.returns-clause-state
returns-clause-state c =
    let h = c.dcc_loco_power_up.ensures.new in
    powered (record { loco = c.dcc_loco_power_up.new.loco; held = c.self-1.given.0 }) h.0 c.args.self.now.loco.cvs
    h.1 h.2 h.3 h.4
