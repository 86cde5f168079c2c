-- The pending write of a decoder text (RCN-214).
use Rattle.std.specs.Prelude.{ℕ, ◌+◌, ◌*◌, ◌/◌, ◌%◌, ◌==◌, ◌&&◌, List, Option, None, Some, Result, Ok, Err, length}
use Rattle.std.specs.Prelude.{drop}
use Rattle.std.specs.Prelude.{slice_index, bytes_eq, if◌then◌else◌}
use Rattle.dcc_packet.specs.declared.address.Address.{Address}
use Rattle.dcc_packet.specs.declared.instruction.What.TheVariants.{CvWrite, CvBitWrite}
use Rattle.dcc_packet.specs.declared.packet.Packet.{Packet}
use Rattle.dcc_packet.specs.declared.packet.Packet.TheVariants.{Loco}
use Rattle.dcc_packet.specs.declared.fault.PacketFault.{PacketFault}
use Rattle.dcc_packet.specs.declared.fault.PacketFault.TheVariants as faults
use Rattle.dcc_packet.specs.Rows.{address_bytes}
use Rattle.dcc_packet.specs.Spelling.{spelling}
use Rattle.dcc_packet.specs.Values.{cv_of, place_of}
use Rattle.dcc_packet.specs.LineWords.{◌>>=◌}
use Rattle.dcc_regs.specs.Loco.{is_pending_for}

-- the number of the CV in the first two bytes of an instruction, KKKKKKVV VVVVVVVV. The bits V are
-- the number of the CV minus one.
abbrev pub cv_named : List ℕ → ℕ
cv_named bytes = 256 * (slice_index bytes 0 % 4) + slice_index bytes 1 + 1

-- the write of a CV that the bytes `bytes` of an instruction mean, sent to the address `to`
abbrev pub byte_write : Address → List ℕ → Result Packet PacketFault
byte_write to bytes = do
  cv ← cv_of (cv_named bytes)
  Ok (Loco to (CvWrite cv (slice_index bytes 2)))

-- the write of a bit (1111DBBB) that the bytes `bytes` of an instruction mean, sent to the address
-- `to`
abbrev pub bit_write : Address → List ℕ → Result Packet PacketFault
bit_write to bytes = do
  cv ← cv_of (cv_named bytes)
  place ← place_of (slice_index bytes 2 % 8)
  Ok (Loco to (CvBitWrite cv place (slice_index bytes 2 / 8 % 2 == 1)))

-- the write that the bytes `bytes` of an instruction mean, sent to the address `to`. If the bytes
-- begin with 111011VV, the result is a write of a CV, otherwise a write of a bit.
abbrev pub write_in : Address → List ℕ → Result Packet PacketFault
write_in to bytes = if slice_index bytes 0 / 4 == 59 then byte_write to bytes else bit_write to bytes

-- `packet`, if its frame is `frame` and it can be pending in a decoder with the address `active`.
-- Otherwise the result is the error P13.
abbrev pub with_frame : Option Address → List ℕ → Result Packet PacketFault → Result Packet PacketFault
with_frame active frame (Ok packet) =
    if bytes_eq (spelling packet) frame && is_pending_for active (Some packet) then Ok packet else Err faults.State
with_frame active frame (Err fault) = Err faults.State

-- the CV write with the frame `frame`, if it can be pending in a decoder with the address `to`.
-- Otherwise the result is the error P13.
unfoldable pub pending_write : Option Address → List ℕ → Result Packet PacketFault
pending_write None frame = Err faults.State
pending_write (Some to) frame = with_frame (Some to) frame (write_in to (drop (length (address_bytes to)) frame))
