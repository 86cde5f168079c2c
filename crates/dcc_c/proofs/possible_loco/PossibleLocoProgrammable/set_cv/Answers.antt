use Rattle.std.proofs.Common.{◌≡◌, ◌∙◌}
use Rattle.dcc_c.proofs.PossibleLocoLemmas.{cv_was_set}
use Rattle.dcc_c.proofs.possible_loco.PossibleLocoProgrammable.set_cv.Goals as goal

pub returns : goal.returns
returns c =
    let number : c.from.result ≡ c.args.cv.number = c.from.ensures ∙ c.number.ensures.value in
    rw number
    (cv_was_set c.args.self.now c.self-1.given.0 c.args.cv.number c.args.value c.lemma_cvs.ensures c.args.cv.in_range.0
    c.args.cv.in_range.1 c.ranges.value.fits)
