-- The plain words of a frame.
use Rattle.std.specs.Prelude.{◌≡◌, ◌≤◌, ◌<◌, ℕ, ◌-◌, ◌==◌, ◌&&◌, ◌||◌, ◌++◌, nat_le, nat_lt, Bool, List, length, take}
use Rattle.std.specs.Prelude.{drop, get_or, codes}
use Rattle.std.specs.Prelude.{Option, None, Some, IfSome, if◌then◌else◌, decimal, ◌⊎◌}
use Rattle.hex.specs.Hex.{encode_lower}
use Rattle.dcc_wire.specs.declared.frame.FrameFault.{FrameFault}
use Rattle.dcc_wire.specs.declared.frame.FrameFault.TheVariants.{Length, XorNotZero}
use Rattle.dcc_wire.specs.Frames.{xor_of}
use Rattle.dcc_packet.specs.declared.packet.Packet.{Packet}
use Rattle.dcc_packet.specs.declared.packet.Packet.TheVariants.{Idle, Loco, Accessory, Signal, Other}
use Rattle.dcc_packet.specs.Spelling.{spelling}
use Rattle.dcc_service.specs.declared.packet.ServicePacket.{ServicePacket}
use Rattle.dcc_service.specs.Table.{service_spelling}
use Rattle.dcc_plain.specs.declared.standard.StandardPacket.{StandardPacket}
use Rattle.dcc_plain.specs.PlainWords.{accessory_words, address_words, instruction_words, service_words, signal_name}
use Rattle.dcc_plain.specs.Standard.{IsStandardPacketOf}
use Rattle.dcc_plain.specs.StandardWords.{hex_words, standard_words}

-- the bytes of a frame before its error byte
abbrev pub body_of : List ℕ → List ℕ
body_of frame = take (length frame - 1) frame

-- true for a frame that a decoder on a programming track may take for an instruction of register
-- mode: three bytes, of which the first is 0111....
abbrev pub may_be_register_mode : List ℕ → Bool
may_be_register_mode frame =
    length frame == 3 && nat_le 112 (get_or frame 0 0) && nat_le (get_or frame 0 0) 127

-- the bytes of a frame that no row names. The addresses 254 and 253 stand for DCC-A and for extended
-- packets.
abbrev pub byte_words : List ℕ → List ℕ
byte_words frame =
    if get_or frame 0 0 == 254 then codes "DCC-A:" ++ hex_words (drop 1 (body_of frame))
    else if get_or frame 0 0 == 253 then codes "extended:" ++ hex_words (drop 1 (body_of frame))
    else codes "frame " ++ encode_lower frame

-- the words of a frame that is neither a packet of the table of packets nor a service packet. The
-- standard packet with its bytes is `standard`, if there is one.
abbrev pub other_words : List ℕ → Option StandardPacket → List ℕ
other_words frame None = byte_words frame
other_words frame (Some packet) = if may_be_register_mode frame then byte_words frame else standard_words packet

-- the plain words of the frame of `packet`. The service packet with the same frame is `service`, and
-- the standard packet `standard`, if there are such packets.
abbrev pub plain_words : Packet → Option ServicePacket → Option StandardPacket → List ℕ
plain_words Idle service standard = codes "idle"
plain_words (Loco to what) service standard = address_words to ++ codes ": " ++ instruction_words to what
plain_words (Accessory board output on) service standard = accessory_words board output on
plain_words (Signal address aspect) service standard =
    signal_name address.number ++ codes ": aspect " ++ decimal aspect
plain_words (Other other) (Some packet) standard = codes "on a programming track: " ++ service_words packet
plain_words (Other other) None standard = other_words other.frame standard

-- `service` is the service packet that `frame` encodes, or `None` if it encodes no service packet
pub record IsServicePacketOf (frame : List ℕ) (service : Option ServicePacket) : Type 0 where
  pub spelled : IfSome service (λ packet. service_spelling packet ≡ frame)
  pub only : (packet : ServicePacket) → service_spelling packet ≡ frame → service ≡ Some packet

-- `text` has the plain words of a frame of at most six bytes, which encodes a `Packet`
abbrev pub IsTextOfFrame : List ℕ → Option StandardPacket → List ℕ → Type 0
IsTextOfFrame frame standard text =
    (packet : Packet) × (service : Option ServicePacket) × (spelling packet ≡ frame)
    × IsServicePacketOf frame service × (text ≡ plain_words packet service standard)

-- `text` has the plain words of a frame. A frame of more than six bytes encodes no `Packet`.
abbrev pub IsPlainText : List ℕ → List ℕ → Type 0
IsPlainText frame text =
    (standard : Option StandardPacket) × IsStandardPacketOf (body_of frame) standard
    × (((length frame ≤ 6) × IsTextOfFrame frame standard text)
    ⊎ ((6 < length frame) × (text ≡ other_words frame standard)))

-- the error of bytes that are no packet of the standard: L1 if there are fewer than 3 or more than 15,
-- L2 if their exclusive or is not zero. The result is `None` if there is no error.
abbrev pub packet_bytes_fault : List ℕ → Option FrameFault
packet_bytes_fault bytes =
    if nat_lt (length bytes) 3 || nat_lt 15 (length bytes) then Some Length
    else if xor_of bytes == 0 then None
    else Some XorNotZero
