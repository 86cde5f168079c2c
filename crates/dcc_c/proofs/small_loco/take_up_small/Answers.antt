use Rattle.std.proofs.Common.{ap}
use Rattle.dcc_c.specs.declared.small_loco.DccSmallLoco.{DccSmallLoco}
use Rattle.dcc_c.proofs.SmallLocoLemmas.{some_small_loco}
use Rattle.dcc_c.proofs.small_loco.take_up_small.Goals as goal

pub returns-clause-found : goal.returns-clause-found
returns-clause-found c state is =
    c.take_up.ensures.found state is.possible (ap (λ (l : DccSmallLoco). l.registers) is.numbers)

pub returns-clause-decoder : goal.returns-clause-decoder
returns-clause-decoder c taken =
    some_small_loco c.args.loco.now c.take_up.new.registers (c.take_up.ensures.numbers taken)
    (c.take_up.ensures.possible taken)
    c.byte_is_small.ensures
