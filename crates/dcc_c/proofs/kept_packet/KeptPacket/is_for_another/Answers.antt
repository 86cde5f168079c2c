use Rattle.std.proofs.Common.{arith}
use Rattle.dcc_c.proofs.KeptPacketLemmas.{another_long}
use Rattle.dcc_c.proofs.kept_packet.KeptPacket.is_for_another.Goals as goal

pub returns-then-from-number : goal.returns-then-from-number
returns-then-from-number c =
    let told = another_long c.self.inside c.in-Long.own c.self.invariant (omega arith) (omega arith) in
    rw (c.in-Long.is, ← c.self.view_is, c.from-then-from-number.ensures, c.number-then-from-number.ensures.value) told
