use Rattle.dcc_packet.proofs.SameAddresses.{one_short, one_long}
use Rattle.dcc_packet.proofs.address.Address.is.Goals as goal

pub returns-in-Short-Short-clause-same : goal.returns-in-Short-Short-clause-same
returns-in-Short-Short-clause-same c =
    rw (c.in-Short-Short.is-0, c.in-Short-Short.is-1) (one_short c.in-Short-Short.one c.in-Short-Short.other)

pub returns-in-Long-Long-clause-same : goal.returns-in-Long-Long-clause-same
returns-in-Long-Long-clause-same c =
    rw (c.in-Long-Long.is-0, c.in-Long-Long.is-1) (one_long c.in-Long-Long.one c.in-Long-Long.other)
