use Rattle.std.proofs.Common.{List, ℕ, subst, sym}
use Rattle.dcc_listen.specs.SpikedListing.{IsSpikedLine}
use Rattle.dcc_listen.proofs.spiked_call.hold_packet.Goals as goal

pub returns : goal.returns
returns g c =
    let line = subst (λ (bytes : List ℕ). IsSpikedLine c.args.words c.args.half c.args.packet.now bytes)
    (sym c.as_slice.ensures.value) c.spiked_line.ensures in
    (c.as_slice.result.now, line, c.hold.ensures)
