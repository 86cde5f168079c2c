use Rattle.std.proofs.Common.{subst}
use Rattle.dcc_station.specs.Refresh.{hands_out}
use Rattle.dcc_station.specs.Stops.{hands_out as hands_out_one}
use Rattle.dcc_station.specs.Rings.{sending_over}
use Rattle.dcc_station.specs.Sending.{Sending, Next}
use Rattle.dcc_station.proofs.station.StationOver.next.Goals as goal

pub returns-clause-stands : goal.returns-clause-stands
returns-clause-stands g c = λ commands packets from.
    let new = sending_over (g.Q.PacketRing.buffer c.hand_out.new.waiting) c.hand_out.new.stopping c.hand_out.new.sent
    (g.S.PacketRing.buffer c.hand_out.new.entries) c.self.inside.repeats in
    hands_out c.args.self.now new commands packets c.hand_out.new.packet from
    (subst (λ (s : Sending). Next s c.hand_out.new.packet new) c.self.view_is c.hand_out.ensures.next)

pub returns-clause-obeys : goal.returns-clause-obeys
returns-clause-obeys g c = λ commands packets from.
    let new = sending_over (g.Q.PacketRing.buffer c.hand_out.new.waiting) c.hand_out.new.stopping c.hand_out.new.sent
    (g.S.PacketRing.buffer c.hand_out.new.entries) c.self.inside.repeats in
    hands_out_one c.args.self.now new commands packets c.hand_out.new.packet from
    (subst (λ (s : Sending). Next s c.hand_out.new.packet new) c.self.view_is c.hand_out.ensures.next)
