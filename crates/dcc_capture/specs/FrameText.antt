-- The text of a frame.
use Rattle.std.specs.Prelude.{◌≡◌, ℕ, Bool, true, false, List}
use Rattle.hex.specs.Hex.{encode_lower}
use Rattle.dcc_packet.specs.declared.packet.Packet.{Packet}
use Rattle.dcc_packet.specs.Spelling.{spelling}
use Rattle.dcc_packet.specs.Written.{written_line}

-- `text` is the text of `frame`. If `words` is true, the text is the packet line of the frame,
-- otherwise the hexadecimal digits of its bytes.
abbrev pub IsFrameText : Bool → List ℕ → List ℕ → Type 0
IsFrameText false frame text = text ≡ encode_lower frame
IsFrameText true frame text = (packet : Packet) × (spelling packet ≡ frame) × (text ≡ written_line packet)
