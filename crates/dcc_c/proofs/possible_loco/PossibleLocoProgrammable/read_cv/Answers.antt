use Rattle.std.proofs.Common.{◌∙◌}
use Rattle.dcc_c.proofs.PossibleLocoLemmas.{cv_read}
use Rattle.dcc_c.proofs.possible_loco.PossibleLocoProgrammable.read_cv.Goals as goal

pub returns : goal.returns
returns c = c.cv_value.ensures ∙ cv_read c.args.self.now c.args.cv.number c.lemma_cvs.ensures
