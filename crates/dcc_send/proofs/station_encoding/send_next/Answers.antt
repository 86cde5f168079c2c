use Rattle.std.proofs.Common.{refl}
use Rattle.dcc_io.specs.StationLines.{Next}
use Rattle.dcc_send.proofs.StationLemmas.{holds_answer}
use Rattle.dcc_send.proofs.station_encoding.send_next.Goals as goal

pub returns-clause-answers : goal.returns-clause-answers
returns-clause-answers g c =
    let holds = rw c.frame.ensures.spelled at c.hold.ensures.line in
    holds_answer c.args.written.now.how c.args.station.now c.next-packet.new.self Next _ _ _ c.args.held.now
    c.hold.new.held c.hold.result (c.next-packet.result, c.next-packet.ensures.next, refl) holds
