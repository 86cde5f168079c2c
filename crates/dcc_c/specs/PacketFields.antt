-- The packet that the fields of a C structure mean. The values are those of packet lines.
use Rattle.std.specs.Prelude.{ℕ, ◌==◌, ◌≤◌, nat_le, if◌then◌else◌, ◌≡◌, Result, Ok, Err}
use Rattle.dcc_packet.specs.declared.address.Address.{Address}
use Rattle.dcc_packet.specs.declared.address.Address.TheVariants.{Broadcast}
use Rattle.dcc_packet.specs.declared.fault.PacketFault.{PacketFault}
use Rattle.dcc_packet.specs.declared.fault.PacketFault.TheVariants.{Word}
use Rattle.dcc_packet.specs.declared.functions.Group.{Group}
use Rattle.dcc_packet.specs.declared.functions.Group.TheVariants.{F0, F5, F9, F13, F21, F29, F37, F45, F53, F61}
use Rattle.dcc_packet.specs.declared.functions.GroupBits.{GroupBits}
use Rattle.dcc_packet.specs.declared.instruction.What.{What}
use Rattle.dcc_packet.specs.declared.instruction.What.TheVariants.{Reset, Speed28, Speed128, Functions, BinaryState}
use Rattle.dcc_packet.specs.declared.instruction.What.TheVariants.{CvWrite, CvVerify, CvBitWrite, CvBitVerify}
use Rattle.dcc_packet.specs.declared.packet.OtherFrame.{OtherFrame}
use Rattle.dcc_packet.specs.declared.packet.Packet.{Packet}
use Rattle.dcc_packet.specs.declared.packet.Packet.TheVariants.{Idle, Loco, Accessory, Signal}
use Rattle.dcc_packet.specs.Fault.{packet_fault_number}
use Rattle.dcc_packet.specs.LineWords.{◌>>=◌}
use Rattle.dcc_packet.specs.Values.{short_of, long_of, speed28_of, speed128_of, functions_of, state_of, cv_of}
use Rattle.dcc_packet.specs.Values.{board_of, output_of, signal_of}
use Rattle.dcc_c.specs.declared.frame.DccFrame.{DccFrame}
use Rattle.dcc_c.specs.declared.packet.DccPacket.{DccPacket}
use Rattle.dcc_c.specs.Frames.{bytes_of}
use Rattle.dcc_c.specs.Packets.{of_kind}
use Rattle.dcc_c.specs.ServicePackets.{bit_of_cv}

-- the number of the error of a result. If there is no error, the number is 0.
abbrev pub fault_or_zero : {A : Type 0} → Result A PacketFault → ℕ
fault_or_zero (Ok x) = 0
fault_or_zero (Err fault) = packet_fault_number fault

-- the address with the kind `kind` and the number `number`, or the first error: P10 for the kind, P1
-- for a short address, P2 for a long address. The number of the broadcast address does not matter.
abbrev pub address_of_numbers : ℕ → ℕ → Result Address PacketFault
address_of_numbers kind number =
    if kind == 0 then Ok Broadcast
    else if kind == 1 then short_of number
    else if kind == 2 then long_of number
    else Err Word

-- the function group with the number `number`, or the error P10
abbrev pub group_of_number : ℕ → Result Group PacketFault
group_of_number number =
    if number == 0 then Ok F0
    else if number == 5 then Ok F5
    else if number == 9 then Ok F9
    else if number == 13 then Ok F13
    else if number == 21 then Ok F21
    else if number == 29 then Ok F29
    else if number == 37 then Ok F37
    else if number == 45 then Ok F45
    else if number == 53 then Ok F53
    else if number == 61 then Ok F61
    else Err Word

-- the bits `bits` of the function group with the number `group`, or the first error: P10 for the
-- group, P9 for the bits
abbrev pub functions_of_numbers : ℕ → ℕ → Result GroupBits PacketFault
functions_of_numbers group bits = do
  named ← group_of_number group
  functions_of named bits

-- the instruction to locomotive decoders that the fields of the C structure `p` mean, or the first
-- error. Fields that the kind does not use do not matter.
abbrev pub what_of_fields : DccPacket → Result What PacketFault
what_of_fields p =
    if p.kind == 1 then Ok Reset
    else if p.kind == 2 then (speed28_of p.bits >>= λ speed. Ok (Speed28 p.forward speed))
    else if p.kind == 3 then (speed128_of p.bits >>= λ speed. Ok (Speed128 p.forward speed))
    else if p.kind == 4 then (functions_of_numbers p.group p.bits >>= λ functions. Ok (Functions functions))
    else if p.kind == 5 then (state_of p.state >>= λ state. Ok (BinaryState state p.on))
    else if p.kind == 6 then (cv_of p.cv >>= λ cv. Ok (CvWrite cv p.value))
    else if p.kind == 7 then (cv_of p.cv >>= λ cv. Ok (CvVerify cv p.value))
    else if p.kind == 8 then (bit_of_cv p.cv p.place >>= λ bit. Ok (CvBitWrite bit.0 bit.1 p.one))
    else if p.kind == 9 then (bit_of_cv p.cv p.place >>= λ bit. Ok (CvBitVerify bit.0 bit.1 p.one))
    else Err Word

-- the packet to locomotive decoders that the fields mean, or the first error. An error of the
-- address comes before an error of the instruction.
abbrev pub loco_of_fields : DccPacket → Result Packet PacketFault
loco_of_fields p = do
  to ← address_of_numbers p.to p.address
  what ← what_of_fields p
  Ok (Loco to what)

-- the packet that switches an output, or the first error: P3 for the board, P4 for the output
abbrev pub accessory_of_fields : DccPacket → Result Packet PacketFault
accessory_of_fields p = do
  board ← board_of p.address
  output ← output_of p.output
  Ok (Accessory board output p.on)

-- the packet that the fields of the C structure `p` mean, or the first error: P10 for a kind above
-- 12. Kind 12 has no fields, so here it has the error P10 too.
abbrev pub packet_of_fields : DccPacket → Result Packet PacketFault
packet_of_fields p =
    if p.kind == 0 then Ok Idle
    else if nat_le p.kind 9 then loco_of_fields p
    else if p.kind == 10 then accessory_of_fields p
    else if p.kind == 11 then (signal_of p.address >>= λ address. Ok (Signal address p.aspect))
    else Err Word

-- the C structure `f` has the bytes of a packet of kind 12: a frame that is in no row of the table of
-- packets
abbrev pub IsOther : DccFrame → Type 0
IsOther f = (f.len ≤ 6) × ((other : OtherFrame) × (other.frame ≡ bytes_of f))

-- the fields of `p` that its instruction uses. All other fields are 0.
abbrev pub used_in_what : DccPacket → DccPacket
used_in_what p =
    if p.kind == 1 then of_kind 1
    else if p.kind == 2 then record (of_kind 2) { forward = p.forward; bits = p.bits }
    else if p.kind == 3 then record (of_kind 3) { forward = p.forward; bits = p.bits }
    else if p.kind == 4 then record (of_kind 4) { group = p.group; bits = p.bits }
    else if p.kind == 5 then record (of_kind 5) { state = p.state; on = p.on }
    else if p.kind == 6 then record (of_kind 6) { cv = p.cv; value = p.value }
    else if p.kind == 7 then record (of_kind 7) { cv = p.cv; value = p.value }
    else if p.kind == 8 then record (of_kind 8) { cv = p.cv; place = p.place; one = p.one }
    else record (of_kind 9) { cv = p.cv; place = p.place; one = p.one }

-- the number of an address of the kind `kind`. The broadcast address has the number 0.
abbrev pub used_number : ℕ → ℕ → ℕ
used_number kind number = if kind == 0 then 0 else number

-- the fields that the kind of the C structure `p` uses. All other fields are 0.
abbrev pub used_fields : DccPacket → DccPacket
used_fields p =
    if p.kind == 0 then of_kind 0
    else if nat_le p.kind 9 then record (used_in_what p) { to = p.to; address = used_number p.to p.address }
    else if p.kind == 10 then record (of_kind 10) { address = p.address; output = p.output; on = p.on }
    else if p.kind == 11 then record (of_kind 11) { address = p.address; aspect = p.aspect }
    else of_kind 12
