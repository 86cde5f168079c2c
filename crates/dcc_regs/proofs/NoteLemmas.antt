-- A packet is told by its own call alone.
use Rattle.std.proofs.Common.{◌≡◌, refl, ap, Some, unwrap_or}
use Rattle.dcc_packet.specs.declared.instruction.What.{What}
use Rattle.dcc_packet.specs.declared.instruction.What.TheVariants.{Reset, Speed28, Speed128}
use Rattle.dcc_packet.specs.declared.instruction.What.TheVariants.{CvWrite, CvVerify, CvBitWrite, CvBitVerify}
use Rattle.dcc_packet.specs.declared.address.Address.{Address}
use Rattle.dcc_packet.specs.declared.packet.Packet.{Packet}
use Rattle.dcc_packet.specs.declared.packet.Packet.TheVariants.{Idle, Loco as ToLoco}
use Rattle.dcc_regs.specs.Notes.{Note, SpeedCall, CvAccessCall}
use Rattle.dcc_regs.specs.Notes.{loco_note, note_of, packet_told}

loco_again : (to : Address) (what : What) → packet_told (loco_note to what) ≡ Some (ToLoco to what)
loco_again to Reset = refl
loco_again to what = refl

pub told_again : (p : Packet) → packet_told (note_of p) ≡ Some p
told_again Idle = refl
told_again (ToLoco to what) = loco_again to what
told_again p = refl

-- the packet that is told, and so its call
told_call : (q p : Packet) → Some q ≡ Some p → note_of q ≡ note_of p
told_call q p e = ap (λ o. note_of (unwrap_or o Idle)) e

pub only_call : (note : Note) (p : Packet) → packet_told note ≡ Some p → note ≡ note_of p
only_call (SpeedCall to (Speed28 forward bits)) p e = told_call _ p e
only_call (SpeedCall to (Speed128 forward bits)) p e = told_call _ p e
only_call (SpeedCall to what) p e = cc
only_call (CvAccessCall to (CvWrite cv value)) p e = told_call _ p e
only_call (CvAccessCall to (CvVerify cv value)) p e = told_call _ p e
only_call (CvAccessCall to (CvBitWrite cv place one)) p e = told_call _ p e
only_call (CvAccessCall to (CvBitVerify cv place one)) p e = told_call _ p e
only_call (CvAccessCall to what) p e = cc
only_call note p e = told_call _ p e
