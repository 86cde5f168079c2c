use Rattle.std.proofs.Common.{sym, ◌∙◌}
use Rattle.dcc_track.proofs.HeldCvs.{cv_in-held}
use Rattle.dcc_track.proofs.packed_loco.PackedLocoProgrammable.read_cv.Goals as goal

pub returns : goal.returns
returns c = c.cv.ensures ∙ sym (cv_in-held _ c.args.cv.number c.args.cv.in_range.0 c.args.cv.in_range.1)
