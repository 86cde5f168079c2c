use Rattle.std.proofs.Common.{ap, true, lit≤}
use Rattle.dcc_packet.specs.declared.address.Address.TheVariants.{Broadcast}
use Rattle.dcc_packet.specs.declared.instruction.What.TheVariants.{Speed28}
use Rattle.dcc_packet.specs.declared.packet.Packet.TheVariants.{Loco}
use Rattle.dcc_packet.specs.declared.speed.SpeedBits28.{SpeedBits28}
use Rattle.dcc_packet.proofs.Same.{same_speed28}
use Rattle.dcc_station.proofs.stop.stop_packet.Goals as goal

pub returns : goal.returns
returns c =
    ap (λ (bits : SpeedBits28). Loco Broadcast (Speed28 true bits))
    (same_speed28 c.in-Ok.bits (record { bits = 3; in_range = lit≤ tt }) c.in-Ok.ensures.ok)
