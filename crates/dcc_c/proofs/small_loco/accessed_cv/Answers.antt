use Rattle.std.proofs.Common.{ap, ◌∙◌}
use Rattle.std.specs.Prelude.{Some}
use Rattle.dcc_regs.specs.declared.loco_registers.LocoRegisters.{LocoRegisters}
use Rattle.dcc_regs.specs.AccessedCv.{accessed_cv}
use Rattle.dcc_c.specs.SmallLocos.{cv_or_0}
use Rattle.dcc_c.proofs.small_loco.accessed_cv.Goals as goal

pub returns-clause-tells : goal.returns-clause-tells
returns-clause-tells c state is =
    let same = (c.take_up_small.ensures.found state is).1 in (
      c.read.result,
      c.read.ensures.spelled,
      ap Some (c.number_of.ensures ∙ ap cv_or_0 c.accessed_cv.ensures
          ∙ ap (λ (r : LocoRegisters). cv_or_0 (accessed_cv r.address r.pending c.read.result)) same),
    )
