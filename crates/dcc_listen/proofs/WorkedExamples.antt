-- The lines of lost packets, computed on the definitions.
use Rattle.std.proofs.Common.{ℕ, [], ◌∷◌, Option, Some, None, true, codes, refl, arith, ◌≡◌, List, false}
use Rattle.std.specs.Fmt.{digits}
use Rattle.dcc_packet.specs.declared.packet.Packet.{Packet}
use Rattle.dcc_packet.specs.declared.packet.Packet.TheVariants.{Loco}
use Rattle.dcc_packet.specs.declared.address.Address.TheVariants.{Short}
use Rattle.dcc_packet.specs.declared.instruction.What.TheVariants.{Functions}
use Rattle.dcc_packet.specs.declared.functions.Group.TheVariants.{F0}
use Rattle.dcc_lost.specs.declared.causes.OffLimits.{OffLimits}
use Rattle.dcc_lost.specs.declared.causes.ShortPreamble.{ShortPreamble}
use Rattle.dcc_lost.specs.declared.causes.LostPacket.{LostPacket}
use Rattle.dcc_listen.specs.LostListing.{IsLostLine}

-- the packet to locomotive 3 that turns F0 on, with these causes
abbrev loco_3 : Option ShortPreamble → Option OffLimits → Option OffLimits → LostPacket
loco_3 preamble ones zeros =
    record { frame = 3 ∷ 144 ∷ 147 ∷ []; preamble = preamble; ones = ones; zeros = zeros }

abbrev packet : Packet
packet = Loco (Short (record { number = 3; in_range = (omega arith, omega arith) }))
    (Functions (record { group = F0; bits = 16; in_range = omega arith }))

abbrev off : ℕ → ℕ → ℕ → Option OffLimits
off count least most = Some (record { count = count; least = least; most = most })

short_preamble : IsLostLine true 27328 (loco_3 (Some (record { ones = 18; since_refusal = None })) None None)
    (codes "27328 lost loco s3 functions 0 16: preamble 18\n")
unfolding digits
short_preamble = (codes "loco s3 functions 0 16", (packet, refl, refl), refl)

-- a refusal ends 67 half-bits before the end of the packet
behind_a_refusal : IsLostLine true 89 (loco_3 (Some (record { ones = 11; since_refusal = Some 67 })) None None)
    (codes "89 lost loco s3 functions 0 16: preamble 11 after 22\n")
unfolding digits
behind_a_refusal = (codes "loco s3 functions 0 16", (packet, refl, refl), refl)

only_ones : IsLostLine true 84 (loco_3 None (off 38 65 67) None)
    (codes "84 lost loco s3 functions 0 16: ones 38 from 65 to 67\n")
unfolding digits
only_ones = (codes "loco s3 functions 0 16", (packet, refl, refl), refl)

three_causes : IsLostLine true 64
    (loco_3 (Some (record { ones = 8; since_refusal = None })) (off 26 26 26) (off 38 77 77))
    (codes "64 lost loco s3 functions 0 16: preamble 8, ones 26 from 26 to 26, zeros 38 from 77 to 77\n")
unfolding digits
three_causes = (codes "loco s3 functions 0 16", (packet, refl, refl), refl)
