use Rattle.std.proofs.Common.{sym, subst}
use Rattle.std.specs.Prelude.{◌≢◌, Some}
use Rattle.std.specs.List.{AllByRecursion}
use Rattle.circular_buffer.specs.Buffer.{Buffer}
use Rattle.dcc_packet.specs.declared.packet.Packet.{Packet}
use Rattle.dcc_regs.specs.Heard.{address_of}
use Rattle.dcc_station.specs.Refresh.{StationRepresents, forgets}
use Rattle.dcc_station.specs.Rings.{sending_over}
use Rattle.dcc_station.specs.Stops.{StationObeys, forgets as forgets_one}
use Rattle.dcc_station.proofs.EntriesForgotten.{none_has}
use Rattle.dcc_c.specs.Stations.{ring_of, sending_of}
use Rattle.dcc_c.proofs.station_forget.forget.Goals as goal

pub returns-clause-gone : goal.returns-clause-gone
returns-clause-gone c =
    let s = c.args.station.now in
    subst (λ (b : Buffer Packet). AllByRecursion (λ (entry : Packet). address_of entry ≢ Some c.args.own.now) b.items)
    (sym c.forget_address.ensures) (none_has c.args.own.now (ring_of s.entries).items)

pub returns-clause-stands : goal.returns-clause-stands
returns-clause-stands c = λ commands packets from.
    let s = c.args.station.now in
    subst
    (λ (b : Buffer Packet). StationRepresents
    (sending_over (ring_of s.commands) s.stopping s.sent b s.repeats) commands packets)
    (sym c.forget_address.ensures) (forgets (sending_of s) commands packets c.args.own.now from)

pub returns-clause-obeys : goal.returns-clause-obeys
returns-clause-obeys c = λ commands packets from.
    let s = c.args.station.now in
    subst
    (λ (b : Buffer Packet). StationObeys (sending_over (ring_of s.commands) s.stopping s.sent b s.repeats)
    commands packets)
    (sym c.forget_address.ensures) (forgets_one (sending_of s) commands packets c.args.own.now from)
