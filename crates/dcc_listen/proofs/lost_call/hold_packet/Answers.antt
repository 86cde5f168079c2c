use Rattle.std.proofs.Common.{List, ℕ, subst, sym}
use Rattle.dcc_listen.specs.LostListing.{IsLostLine}
use Rattle.dcc_listen.proofs.lost_call.hold_packet.Goals as goal

pub returns : goal.returns
returns g c =
    let line = subst (λ (bytes : List ℕ). IsLostLine c.args.words c.args.half c.args.packet.now bytes)
    (sym c.as_slice.ensures.value) c.lost_line.ensures in
    (c.as_slice.result.now, line, c.hold.ensures)
