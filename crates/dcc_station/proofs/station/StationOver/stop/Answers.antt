use Rattle.std.proofs.Common.{◌∙◌, ◌++◌, ◌∷◌, sym, ap, subst}
use Rattle.std.specs.Prelude.{filter}
use Rattle.dcc_regs.specs.Safety.{can_move}
use Rattle.dcc_station.specs.Sending.{Sending, stopped, stop_packet, not_withdrawn}
use Rattle.dcc_station.specs.Stops.{StationObeys, stops, partly_sent}
use Rattle.dcc_station.proofs.station.StationOver.stop.Goals as goal

pub returns-clause-stops : goal.returns-clause-stops
returns-clause-stops g c =
    let r = c.self.inside in
    c.stop_all.ensures.stops (g.S.PacketRing.buffer r.entries) r.repeats ∙ ap stopped c.self.view_is

pub returns-clause-obeys : goal.returns-clause-obeys
returns-clause-obeys g c = λ done packets from.
    let r = c.self.inside in
    let old = c.args.self.now in
    subst (λ (s : Sending). StationObeys s
    (done ++ filter can_move (partly_sent old) ++ stop_packet ∷ not_withdrawn old.waiting) packets)
    (sym (c.stop_all.ensures.stops (g.S.PacketRing.buffer r.entries) r.repeats ∙ ap stopped c.self.view_is))
    (stops old done packets from)
