-- The C structure of a packet. A field that the kind of the packet does not use is 0.
use Rattle.std.specs.Prelude.{ℕ, false}
use Rattle.dcc_packet.specs.declared.address.Address.{Address}
use Rattle.dcc_packet.specs.declared.address.Address.TheVariants.{Broadcast, Short, Long}
use Rattle.dcc_packet.specs.declared.functions.Group.{Group}
use Rattle.dcc_packet.specs.declared.functions.Group.TheVariants.{F0, F5, F9, F13, F21, F29, F37, F45, F53, F61}
use Rattle.dcc_packet.specs.declared.instruction.What.{What}
use Rattle.dcc_packet.specs.declared.instruction.What.TheVariants.{Reset, Speed28, Speed128, Functions, BinaryState}
use Rattle.dcc_packet.specs.declared.instruction.What.TheVariants.{CvWrite, CvVerify, CvBitWrite, CvBitVerify}
use Rattle.dcc_packet.specs.declared.packet.Packet.{Packet}
use Rattle.dcc_packet.specs.declared.packet.Packet.TheVariants.{Idle, Loco, Accessory, Signal, Other}
use Rattle.dcc_c.specs.declared.packet.DccPacket.{DccPacket}

-- the number of the kind of an address: 0 for the broadcast address, 1 for a short address, 2 for a
-- long address
abbrev pub address_kind : Address → ℕ
address_kind Broadcast = 0
address_kind (Short address) = 1
address_kind (Long address) = 2

abbrev pub address_number : Address → ℕ
address_number Broadcast = 0
address_number (Short address) = address.number
address_number (Long address) = address.number

-- the number of a function group: 0 for F0 to F4, otherwise the number of the first function of the
-- group
abbrev pub group_number : Group → ℕ
group_number F0 = 0
group_number F5 = 5
group_number F9 = 9
group_number F13 = 13
group_number F21 = 21
group_number F29 = 29
group_number F37 = 37
group_number F45 = 45
group_number F53 = 53
group_number F61 = 61

-- the C structure of a packet of the kind `kind`. All its other fields are 0.
abbrev pub of_kind : ℕ → DccPacket
of_kind kind = record {
  kind = kind;
  to = 0;
  address = 0;
  forward = false;
  bits = 0;
  group = 0;
  state = 0;
  on = false;
  cv = 0;
  value = 0;
  place = 0;
  one = false;
  output = 0;
  aspect = 0;
}

-- the C structure of an instruction to locomotive decoders, without the address
abbrev pub instruction_numbers : What → DccPacket
instruction_numbers Reset = of_kind 1
instruction_numbers (Speed28 forward speed) = record (of_kind 2) { forward = forward; bits = speed.bits }
instruction_numbers (Speed128 forward speed) = record (of_kind 3) { forward = forward; bits = speed.bits }
instruction_numbers (Functions functions) =
    record (of_kind 4) { group = group_number functions.group; bits = functions.bits }
instruction_numbers (BinaryState state on) = record (of_kind 5) { state = state.number; on = on }
instruction_numbers (CvWrite cv value) = record (of_kind 6) { cv = cv.number; value = value }
instruction_numbers (CvVerify cv value) = record (of_kind 7) { cv = cv.number; value = value }
instruction_numbers (CvBitWrite cv place one) = record (of_kind 8) { cv = cv.number; place = place.place; one = one }
instruction_numbers (CvBitVerify cv place one) = record (of_kind 9) { cv = cv.number; place = place.place; one = one }

-- the C structure of a packet. A field that the kind of the packet does not use is 0.
abbrev pub packet_numbers : Packet → DccPacket
packet_numbers Idle = of_kind 0
packet_numbers (Loco to what) = record (instruction_numbers what) { to = address_kind to; address = address_number to }
packet_numbers (Accessory board output on) =
    record (of_kind 10) { address = board.number; output = output.number; on = on }
packet_numbers (Signal address aspect) = record (of_kind 11) { address = address.number; aspect = aspect }
packet_numbers (Other frame) = of_kind 12
