use Rattle.std.proofs.Common.{List, ℕ, false, subst, sym}
use Rattle.dcc_wire.specs.declared.seen.Seen.TheVariants.{Nothing, Packet, Refused}
use Rattle.dcc_listen.specs.PlainListing.{IsPlainLine}
use Rattle.dcc_listen.proofs.plain_call.PlainLinesLineForm.hold.Goals as goal

pub returns-in-Packet : goal.returns-in-Packet
returns-in-Packet g c =
    let line = subst (λ (bytes : List ℕ). IsPlainLine c.args.half (Packet c.in-Packet.frame) bytes)
    (sym c.as_slice.ensures.value) c.plain_line.ensures in
    (c.as_slice.result.now, rw c.in-Packet.is line, c.hold.ensures)
