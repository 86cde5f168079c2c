use Rattle.dcc_track.proofs.LocoLemmas.{loco_cv_set}
use Rattle.dcc_track.proofs.packed_loco.PackedLocoProgrammable.set_cv.Goals as goal

pub returns : goal.returns
returns c =
    loco_cv_set c.args.self.now.registers.address _ _ _ c.args.cv.number c.args.value c.who.ensures.possible
    c.args.cv.in_range.0 c.args.cv.in_range.1 c.ranges.value.fits c.set_cv.ensures.who c.set_cv.ensures.registers
