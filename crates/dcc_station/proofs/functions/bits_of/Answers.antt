use Rattle.std.proofs.Common.{refl}
use Rattle.dcc_station.proofs.FunctionLemmas.{first_states}
use Rattle.dcc_station.proofs.functions.bits_of.Goals as goal

pub returns-in-F0-clause-states : goal.returns-in-F0-clause-states
returns-in-F0-clause-states c n place is =
    first_states c.args.functions c.four_from.result _ n place refl c.four_from.ensures.within
    c.four_from.ensures.states (rw c.in-F0.is at is)
