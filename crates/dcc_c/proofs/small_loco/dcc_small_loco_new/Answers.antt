use Rattle.std.proofs.Common.{refl}
use Rattle.dcc_regs.specs.LocoRegisters.{with_cvs}
use Rattle.dcc_c.proofs.SmallLocoLemmas.{small_numbers}
use Rattle.dcc_c.proofs.small_loco.dcc_small_loco_new.Goals as goal

pub returns : goal.returns
returns c cvs all have = (
  with_cvs c.powered_up-registers.result cvs,
  record {
    possible = c.powered_up-registers.ensures.possible cvs;
    cvs = all;
    numbers = small_numbers _ c.powered_up-registers.result cvs c.put.ensures have.cv29;
  },
  refl,
  c.powered_up-registers.ensures.who cvs have,
  c.powered_up-registers.ensures.registers cvs,
)
