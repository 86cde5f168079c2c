-- Frames as numbers, by which the code finds a packet in a list of packets. No main definition
-- depends on this file.
use Rattle.std.specs.Prelude.{ℕ, ◌+◌, ◌*◌, ◌≡◌, Option, List, [], ◌∷◌}
use Rattle.std.specs.List.{position}
use Rattle.dcc_wire.specs.Frames.{IsFrame}
use Rattle.dcc_packet.specs.declared.packet.Packet.{Packet}
use Rattle.dcc_packet.specs.SamePacket.{same}
use Rattle.dcc_packet.specs.Spelling.{spelling}

-- the frame `bytes` as one number. The digits of this number in base 256 are the bytes, with the
-- first byte as the lowest digit, and a digit 1 above the last byte. So no two frames have the same
-- number.
abbrev pub frame_number : List ℕ → ℕ
frame_number [] = 1
frame_number (byte ∷ bytes) = byte + 256 * frame_number bytes

-- for each packet, `found` maps the `frame_number` of its frame to the place of the packet in
-- `members`. The result of `found` is `None` if `members` does not contain the packet.
abbrev pub IsIndex : (ℕ → Option ℕ) → List Packet → Type 0
IsIndex found members =
    (p : Packet) → IsFrame (spelling p) → found (frame_number (spelling p)) ≡ position (same p) members
