use Rattle.dcc_listen.proofs.LostCallLemmas.{reported}
use Rattle.dcc_listen.proofs.lost_call.hold_lost.Goals as goal

pub returns-in-Some : goal.returns-in-Some
returns-in-Some g c place half =
    let wrote = c.hold_packet.ensures in (
      wrote.0,
      rw c.in-Some.is (reported c.args.words place c.args.half c.in-Some.packet wrote.0 half wrote.1),
      wrote.2,
    )
