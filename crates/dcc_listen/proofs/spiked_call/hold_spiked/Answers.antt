use Rattle.std.proofs.Common.{◌∙◌, sym}
use Rattle.dcc_listen.proofs.SpikedCallLemmas.{some_not_none, spiked_reported}
use Rattle.dcc_listen.proofs.spiked_call.hold_spiked.Goals as goal

pub returns-in-Some : goal.returns-in-Some
returns-in-Some g c = λ some.
    let wrote = c.hold_packet.ensures in (
      wrote.0,
      rw c.in-Some.is (spiked_reported c.args.words c.args.count c.in-Some.packet wrote.0
          (some (λ none. some_not_none c.in-Some.packet (sym c.in-Some.is ∙ none))) wrote.1),
      wrote.2,
    )
