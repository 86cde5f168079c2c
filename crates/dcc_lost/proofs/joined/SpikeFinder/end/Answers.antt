use Rattle.std.proofs.Common.{◌≢◌, None, subst, Option}
use Rattle.dcc_lost.specs.declared.joined.SpikedPacket.{SpikedPacket}
use Rattle.dcc_lost.proofs.FoundLemmas.{some_of_nothing}
use Rattle.dcc_lost.proofs.joined.SpikeFinder.end.Goals as goal

pub returns-clause-some : goal.returns-clause-some
returns-clause-some c = λ limit durations joins some.
    some_of_nothing limit durations
    (subst (λ (found : Option SpikedPacket). found ≢ None) (c.close.ensures.found limit durations joins) some)
