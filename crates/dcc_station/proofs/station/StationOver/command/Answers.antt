use Rattle.std.proofs.Common.{Result, Ok, Err}
use Rattle.std.specs.Prelude.{OnOk}
use Rattle.dcc_station.specs.Refresh.{accepts}
use Rattle.dcc_station.specs.Stops.{accepts as accepts_one}
use Rattle.dcc_station.specs.Rings.{sending_over}
use Rattle.dcc_station.proofs.station.StationOver.command.Goals as goal

where_ok : {A E P Q R : Type 0} (r : Result A E) → (P → Q → R) → OnOk r P → OnOk r Q → OnOk r R
where_ok (Ok x) both p q = both p q
where_ok (Err e) both p q = q

pub returns-clause-stands : goal.returns-clause-stands
returns-clause-stands g c =
    let r = c.self.inside in
    let waiting = g.Q.PacketRing.buffer r.commands in
    let entries = g.S.PacketRing.buffer r.entries in
    let packet = c.args.packet in
    where_ok c.take_command.result (λ ok room. λ commands packets from. rw ok
    (accepts (sending_over waiting r.stopping r.sent entries r.repeats) commands packets packet (rw c.self.view_is from)
    room.0 room.1)) c.take_command.ensures.ok c.take_command.ensures.room

pub returns-clause-obeys : goal.returns-clause-obeys
returns-clause-obeys g c =
    let r = c.self.inside in
    let waiting = g.Q.PacketRing.buffer r.commands in
    let entries = g.S.PacketRing.buffer r.entries in
    let packet = c.args.packet in
    where_ok c.take_command.result (λ ok room. λ commands packets from. rw ok
    (accepts_one (sending_over waiting r.stopping r.sent entries r.repeats) commands packets packet
    (rw c.self.view_is from) room.0 room.1)) c.take_command.ensures.ok c.take_command.ensures.room
