-- The frame that encodes a packet.
use Rattle.std.specs.Prelude.{List, [], ◌∷◌, ◌++◌, ℕ, ◌<◌}
use Rattle.hex.specs.Hex.{IsBytes}
use Rattle.dcc_wire.specs.Frames.{with_error_byte}
use Rattle.dcc_packet.specs.declared.instruction.What.{What}
use Rattle.dcc_packet.specs.declared.instruction.What.TheVariants.{Reset, Speed28, Speed128, Functions, BinaryState}
use Rattle.dcc_packet.specs.declared.instruction.What.TheVariants.{CvWrite, CvVerify, CvBitWrite, CvBitVerify}
use Rattle.dcc_packet.specs.declared.packet.Packet.{Packet}
use Rattle.dcc_packet.specs.declared.packet.Packet.TheVariants.{Idle, Loco, Accessory, Signal, Other}
use Rattle.dcc_packet.specs.Rows.{address_bytes, instruction_bytes, accessory_bytes, signal_bytes}

-- the frame of a packet: the bytes of its row of the table and their error byte. An `Other` packet
-- fits no row. Its frame is stored in the packet.
abbrev pub spelling : Packet → List ℕ
-- idle (S-9.2; RCN-211): 11111111 00000000
spelling Idle = with_error_byte (0xFF ∷ 0 ∷ [])
-- packets to locomotive decoders (S-9.2.1; RCN-211): an address and an instruction
spelling (Loco to what) = with_error_byte (address_bytes to ++ instruction_bytes what)
spelling (Accessory board output on) = with_error_byte (accessory_bytes board output on)
spelling (Signal address aspect) = with_error_byte (signal_bytes address aspect)
spelling (Other other) = other.frame

-- the instruction has no CV value, or its CV value is below 256
abbrev pub ValueFits : What → Type 0
ValueFits Reset = Unit {0}
ValueFits (Speed28 forward bits) = Unit {0}
ValueFits (Speed128 forward bits) = Unit {0}
ValueFits (Functions bits) = Unit {0}
ValueFits (BinaryState number on) = Unit {0}
ValueFits (CvWrite cv value) = value < 256
ValueFits (CvVerify cv value) = value < 256
ValueFits (CvBitWrite cv place one) = Unit {0}
ValueFits (CvBitVerify cv place one) = Unit {0}

-- each number in the packet that is sent as a byte is below 256. This holds for each `Packet` of a
-- program, because these numbers have the type `u8` there.
abbrev pub BytesFit : Packet → Type 0
BytesFit Idle = Unit {0}
BytesFit (Loco to what) = ValueFits what
BytesFit (Accessory board output on) = Unit {0}
BytesFit (Signal address aspect) = aspect < 256
BytesFit (Other other) = IsBytes other.frame
