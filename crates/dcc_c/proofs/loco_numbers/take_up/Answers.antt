use Rattle.std.proofs.Common.{ap, sym, ◌∙◌}
use Rattle.dcc_regs.specs.declared.loco_registers.LocoRegisters.{LocoRegisters}
use Rattle.dcc_regs.specs.LocoRegisters.{with_cvs}
use Rattle.dcc_regs.specs.LocoState.{is_state}
use Rattle.dcc_c.proofs.loco_numbers.take_up.Goals as goal

pub returns-then-read-clause-found : goal.returns-then-read-clause-found
returns-then-read-clause-found c state possible e =
    let read = c.read.ensures.found state possible e in (
      c.is_possible.ensures state.cvs
          ∙ ap (λ (r : LocoRegisters). is_state (with_cvs r state.cvs)) read.1 ∙ possible,
      read.1,
    )

pub returns-then-read-clause-possible : goal.returns-then-read-clause-possible
returns-then-read-clause-possible c possible cvs = sym (c.is_possible.ensures cvs) ∙ possible
