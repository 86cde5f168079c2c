use Rattle.std.proofs.Common.{refl}
use Rattle.dcc_station.proofs.FunctionLemmas.{masked_from}
use Rattle.dcc_station.proofs.functions.four_from.Goals as goal

pub returns-clause-states : goal.returns-clause-states
returns-clause-states c place below = masked_from c.args.functions c.args.first 15 4 place refl below
