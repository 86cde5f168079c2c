use Rattle.std.proofs.Common.{sym, ◌∙◌}
use Rattle.dcc_regs.specs.LocoRegisters.{with_cvs}
use Rattle.dcc_regs.specs.LocoState.{loco_state_content}
use Rattle.dcc_regs.proofs.CvLemmas.{cv_of-loco}
use Rattle.dcc_regs.proofs.packed_loco.PackedLoco.cv.Goals as goal

pub returns : goal.returns
returns c =
    let d = loco_state_content (with_cvs c.args.self.now.registers c.args.self.now.cvs) in
    c.cv_value.ensures
    ∙ sym (cv_of-loco d c.args.cv.number c.args.cv.in_range.0 c.args.cv.in_range.1
    (rw (← c.cv_value.ensures) c.cv_value.type_inv))
