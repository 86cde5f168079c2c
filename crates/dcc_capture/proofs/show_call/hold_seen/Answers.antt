use Rattle.dcc_capture.proofs.ListingLaws.{reported}
use Rattle.dcc_capture.proofs.show_call.hold_seen.Goals as goal

pub returns-in-Packet : goal.returns-in-Packet
returns-in-Packet g c place half =
    let wrote = c.hold.ensures in (
      wrote.0,
      reported (g.F.LineForm.is_line c.args.form.now) place c.args.half c.args.seen.now wrote.0 c.in-Packet.is half
          wrote.1,
      wrote.2,
    )
