-- The packets in half-bits, and decoders that hear these packets.
use Rattle.std.specs.Prelude.{◌≡◌, ℕ, List, Option, Some, None, map}
use Rattle.std.specs.List.{concat, filter_map}
use denote.Bor.{Bor}
use Rattle.dcc_wire.specs.declared.seen.Seen.{Seen}
use Rattle.dcc_wire.specs.declared.seen.Seen.TheVariants.{Packet as PacketSeen}
use Rattle.dcc_wire.specs.Framing.{seen}
use Rattle.dcc_packet.specs.declared.packet.Packet.{Packet}
use Rattle.dcc_packet.specs.Spelling.{spelling}
use Rattle.dcc_regs.specs.declared.register.Who.{Who}
use Rattle.dcc_regs.specs.Result.{RegisterMap, HasHeard}

-- the frame of the outcome `shown`, if `shown` is a packet. For any other outcome, the result is
-- `None`.
abbrev pub packet_frame : Seen → Option (List ℕ)
packet_frame (PacketSeen frame) = Some frame
packet_frame shown = None

-- `packets` are the packets in the half-bits `halves`: their frames are the frames of the outcomes
-- of `halves`, in the same order
abbrev pub ArePackets : List Packet → List ℕ → Type 0
ArePackets packets halves = map spelling packets ≡ filter_map (λ at. packet_frame at.1) (seen halves)

-- a decoder with identity `who` and registers `start` has heard the packets in the half-bits
-- `halves`. The decoder then has the identity `who'` and the registers `now`.
pub record HasHeardHalves (halves : List ℕ) (who : Who) (start : RegisterMap) (who' : Who) (now : RegisterMap) : Type 0
  where
    pub packets : List Packet
    pub seen : ArePackets packets halves
    pub heard : HasHeard packets who start who' now

-- the half-bits of all `pieces` of a track, as one list
abbrev pub whole_track : List (Bor (List ℕ)) → List ℕ
whole_track pieces = concat (map (λ piece. piece.now) pieces)
