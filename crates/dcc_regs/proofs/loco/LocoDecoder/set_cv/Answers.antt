use Rattle.std.proofs.Common.{◌≡◌, ◌∙◌, refl}
use Rattle.dcc_regs.specs.LocoDecoder.{loco_content}
use Rattle.dcc_regs.proofs.CvSetLemmas.{cv_is_set}
use Rattle.dcc_regs.proofs.loco.LocoDecoder.set_cv.Goals as goal

pub returns-clause-registers : goal.returns-clause-registers
returns-clause-registers c =
    let number : c.from.result ≡ c.args.cv.number = c.from.ensures ∙ c.number.ensures.value in
    rw number
    (cv_is_set (loco_content c.args.self.now) c.args.self.now.cvs
    c.args.cv.number c.args.value c.lemma_cvs.ensures c.args.cv.in_range.0 c.args.cv.in_range.1 refl)
