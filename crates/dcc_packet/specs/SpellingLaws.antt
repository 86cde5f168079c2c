-- A theorem about the frames that encode packets.
use Rattle.dcc_wire.specs.Frames.{IsFrame}
use Rattle.dcc_packet.specs.declared.packet.Packet.{Packet}
use Rattle.dcc_packet.specs.Spelling.{spelling, BytesFit}

-- if the numbers in `packet` fit into bytes, `spelling packet` is a frame
abbrev pub SpellingsAreFrames : Type 0
SpellingsAreFrames = (packet : Packet) → BytesFit packet → IsFrame (spelling packet)
