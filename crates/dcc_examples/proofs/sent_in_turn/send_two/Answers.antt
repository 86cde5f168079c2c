use Rattle.std.proofs.Common.{◌+◌, ◌*◌, ◌≡◌, ◌++◌, ◌∷◌, [], List, length, refl, ◌∙◌, ap, subst, arith}
use Rattle.dcc_packet.specs.declared.packet.Packet.{Packet}
use Rattle.dcc_station.specs.Sending.{with_command}
use Rattle.dcc_station.specs.WaitingTimes.{RunsTo, copies_left}
use Rattle.dcc_examples.proofs.sent_in_turn.send_two.Goals as goal

pub returns-clause-in_turn : goal.returns-clause-in_turn
returns-clause-in_turn c =
    let out : List Packet = c.next.result ∷ c.next-2.result ∷ c.next-3.result ∷ [] in
    let is = c.in-Ok-Ok.ensures.ok ∙ ap (λ s. with_command s c.args.first) c.in_ok-station.ensures.made in
    let run = subst (λ s. RunsTo s out c.next-3.new.self) c.in-Ok-Ok.ensures'.ok
    (c.runs_go_on.ensures.returned _ _ out
    (_, c.next.ensures.next, (_, c.next-2.ensures.next, (_, c.next-3.ensures.next, refl)))) in
    let law = c.commands_are_sent_in_time.ensures.packets c.command.new.self _ _ [] out c.args.second
    (c.in-Ok-Ok.ensures.stands _ [] c.in_ok-station.ensures.stands) run
    (omega (arith, ap (λ s. length s.waiting * (s.repeats + 1)) is)) in
    (law.0, subst (λ s. out ≡ copies_left s s.waiting ++ c.args.second ∷ law.0) is law.1)
