use Rattle.std.proofs.Common.{sym, ◌∙◌}
use Rattle.dcc_regs.specs.LocoDecoder.{loco_content}
use Rattle.dcc_regs.proofs.CvLemmas.{cv_of-loco}
use Rattle.dcc_regs.proofs.loco.LocoDecoder.cv.Goals as goal

pub returns : goal.returns
returns c =
    c.cv_value.ensures
    ∙ sym (cv_of-loco (loco_content c.args.self.now) c.args.cv.number c.args.cv.in_range.0 c.args.cv.in_range.1
    (rw (← c.cv_value.ensures) c.cv_value.type_inv))
