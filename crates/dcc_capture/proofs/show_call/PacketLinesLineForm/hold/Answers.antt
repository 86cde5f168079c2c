use Rattle.std.proofs.Common.{List, ℕ, subst, sym}
use Rattle.dcc_capture.specs.Listing.{IsLine}
use Rattle.dcc_capture.proofs.show_call.PacketLinesLineForm.hold.Goals as goal

pub returns : goal.returns
returns g c =
    let line = subst (λ (bytes : List ℕ). IsLine c.args.self.now.words c.args.half c.args.seen.now bytes)
    (sym c.as_slice.ensures.value) c.outcome_line.ensures in
    (c.as_slice.result.now, line, c.hold.ensures)
