use Rattle.dcc_c.proofs.PossibleLocoLemmas.{restarted}
use Rattle.dcc_c.proofs.possible_loco.PossibleLocoProgrammable.restart.Goals as goal

pub returns : goal.returns
returns c = restarted c.args.self.now c.power_up.new.self c.lemma_cvs.ensures c.power_up.ensures.state
