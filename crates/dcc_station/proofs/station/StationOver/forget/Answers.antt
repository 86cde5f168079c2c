use Rattle.dcc_station.specs.Refresh.{forgets}
use Rattle.dcc_station.specs.Stops.{forgets as forgets_one}
use Rattle.dcc_station.specs.Rings.{sending_over}
use Rattle.dcc_station.proofs.EntriesForgotten.{fewer, none_has}
use Rattle.dcc_station.proofs.station.StationOver.forget.Goals as goal

pub returns-clause-gone : goal.returns-clause-gone
returns-clause-gone g c =
    rw c.forget_address.ensures (none_has c.args.address (g.S.PacketRing.buffer c.self.inside.entries).items)

pub returns-clause-removed : goal.returns-clause-removed
returns-clause-removed g c =
    rw (← c.self.view_is, c.forget_address.ensures)
    (fewer c.args.address (g.S.PacketRing.buffer c.self.inside.entries).items)

pub returns-clause-stands : goal.returns-clause-stands
returns-clause-stands g c = λ commands packets from.
    let r = c.self.inside in
    rw c.forget_address.ensures (forgets
    (sending_over (g.Q.PacketRing.buffer r.commands) r.stopping r.sent (g.S.PacketRing.buffer r.entries) r.repeats)
    commands packets c.args.address (rw c.self.view_is from))

pub returns-clause-obeys : goal.returns-clause-obeys
returns-clause-obeys g c = λ commands packets from.
    let r = c.self.inside in
    rw c.forget_address.ensures (forgets_one
    (sending_over (g.Q.PacketRing.buffer r.commands) r.stopping r.sent (g.S.PacketRing.buffer r.entries) r.repeats)
    commands packets c.args.address (rw c.self.view_is from))
