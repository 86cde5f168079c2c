-- Theorems about packets that are sent and heard.
use Rattle.std.specs.Prelude.{◌≡◌, ℕ, List, [], ◌++◌, map}
use Rattle.dcc_wire.specs.declared.timing.Timing.{Timing}
use Rattle.dcc_wire.specs.Framing.{seen}
use Rattle.dcc_wire.specs.Sending.{Sent, sent, sent_all, at_last_halves}
use Rattle.dcc_packet.specs.declared.packet.Packet.{Packet}
use Rattle.dcc_packet.specs.Spelling.{spelling, BytesFit}
use Rattle.dcc_regs.specs.declared.register.Who.{Who}
use Rattle.dcc_regs.specs.Result.{RegisterMap, step}
use Rattle.dcc_order.specs.Hearing.{ArePackets, HasHeardHalves}

-- a packet that is sent, and its timing. The numbers in the packet are below 256, as in every
-- `Packet` of a program.
pub record SentPacket : Type 0 where
  pub packet : Packet
  pub fits : BytesFit packet
  pub timing : Timing

-- the frame of the packet of `one`, and its timing
abbrev pub spelled_out : SentPacket → Sent
spelled_out one = record { bytes = spelling one.packet; timing = one.timing }

-- if packets are sent one after the other, their half-bits contain exactly these packets, in the
-- same order
abbrev pub SentPacketsAreHeard : Type 0
SentPacketsAreHeard =
    (sent : List SentPacket) → ArePackets (map (λ one. one.packet) sent) (sent_all (map spelled_out sent))

-- if packets are sent one after the other, the outcomes in their half-bits are the frames of these
-- packets, each at its last half-bit
abbrev pub NothingElseIsSeen : Type 0
NothingElseIsSeen =
    (sent : List SentPacket) → seen (sent_all (map spelled_out sent)) ≡ at_last_halves 0 (map spelled_out sent)

-- let a decoder with the registers `start` hear the half-bits of a packet `p`, sent with any
-- timing. The decoder then has the registers `step who start p`.
abbrev pub SentPacketIsDone : Type 0
SentPacketIsDone =
    (p : Packet) (timing : Timing) (halves : List ℕ) (who who' : Who) (start now : RegisterMap) → BytesFit p
    → halves ≡ sent (spelling p) timing → HasHeardHalves (halves ++ []) who start who' now → now ≡ step who start p
