use Rattle.dcc_station.specs.Refresh.{made}
use Rattle.dcc_station.proofs.station.StationOver.over.Goals as goal

pub returns-clause-stands : goal.returns-clause-stands
returns-clause-stands g c = rw (c.requires.none_waits, c.requires.no_entries)
    (made (g.Q.PacketRing.buffer c.args.commands).capacity (g.S.PacketRing.buffer c.args.entries).capacity
    c.args.repeats c.requires.some)
