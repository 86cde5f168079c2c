use Rattle.std.proofs.Common.{refl}
use Rattle.dcc_station.proofs.FunctionLemmas.{masked_from}
use Rattle.dcc_station.proofs.functions.eight_from.Goals as goal

pub returns : goal.returns
returns c place below = masked_from c.args.functions c.args.first 255 8 place refl below
