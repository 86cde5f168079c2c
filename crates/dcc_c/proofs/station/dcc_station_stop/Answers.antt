use Rattle.std.proofs.Common.{◌++◌, ◌∷◌, sym, subst}
use Rattle.std.specs.Prelude.{filter}
use Rattle.dcc_regs.specs.Safety.{can_move}
use Rattle.dcc_station.specs.Sending.{Sending, stop_packet, not_withdrawn}
use Rattle.dcc_station.specs.Stops.{StationObeys, stops, partly_sent}
use Rattle.dcc_c.specs.Stations.{sending_of, ring_of}
use Rattle.dcc_c.proofs.station.dcc_station_stop.Goals as goal

pub returns-clause-stops : goal.returns-clause-stops
returns-clause-stops c =
    let s = c.args.station.now in c.stop_all.ensures.stops (ring_of s.entries) s.repeats

pub returns-clause-obeys : goal.returns-clause-obeys
returns-clause-obeys c = λ done packets from.
    let s = c.args.station.now in
    let old = sending_of s in
    subst (λ (new : Sending). StationObeys new
    (done ++ filter can_move (partly_sent old) ++ stop_packet ∷ not_withdrawn old.waiting) packets)
    (sym (c.stop_all.ensures.stops (ring_of s.entries) s.repeats)) (stops old done packets from)
