use Rattle.dcc_c.proofs.PossibleLocoLemmas.{has_cvs}
use Rattle.dcc_c.proofs.possible_loco.PossibleLocoProgrammable.identity.Goals as goal

pub returns-clause-cvs : goal.returns-clause-cvs
returns-clause-cvs c = has_cvs c.args.self.now
