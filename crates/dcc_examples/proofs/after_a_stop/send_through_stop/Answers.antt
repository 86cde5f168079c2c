use Rattle.std.proofs.Common.{◌∷◌, [], List, ◌∙◌, ap, subst, arith}
use Rattle.dcc_packet.specs.declared.packet.Packet.{Packet}
use Rattle.dcc_station.specs.LaterStops.{RunsWithStops, stays_so, returns_more, stops_more}
use Rattle.dcc_station.specs.Sending.{idle_sending, with_command}
use Rattle.dcc_station.specs.Stops.{made}
use Rattle.dcc_examples.proofs.after_a_stop.send_through_stop.Goals as goal

pub returns-clause-comes : goal.returns-clause-comes
returns-clause-comes c = λ calm.
    let out : List Packet = c.next.result ∷ c.next-2.result ∷ c.next-3.result ∷ [] in
    let end = c.next-3.new.self in
    let is = c.in-Ok.ensures.ok ∙ ap (λ s. with_command s c.args.command) c.in_ok-station.ensures.made in
    let run : RunsWithStops 0 c.stop.new.self out end =
    returns_more 0 _ _ _ _ _ c.next.ensures.next
    (returns_more 0 _ _ _ _ _ c.next-2.ensures.next (returns_more 0 _ _ _ _ _ c.next-3.ensures.next (stays_so _))) in
    c.commands_are_sent_between_stops.ensures (idle_sending 4 8 2) end [] [] out c.args.command 1
    (made 4 8 2 (omega arith)) calm
    (subst (λ s. RunsWithStops 1 s out end) is
    (stops_more 0 _ end out (subst (λ s. RunsWithStops 0 s out end) c.stop.ensures.stops run)))
    (omega arith)
