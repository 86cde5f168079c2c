-- Theorems about the packets in half-bits.
use Rattle.std.specs.Prelude.{◌≡◌, ℕ, List, []}
use Rattle.dcc_packet.specs.declared.packet.Packet.{Packet}
use Rattle.dcc_regs.specs.declared.register.Who.{Who}
use Rattle.dcc_regs.specs.Result.{RegisterMap}
use Rattle.dcc_order.specs.AlikeLists.{AlikeFor}
use Rattle.dcc_order.specs.Hearing.{ArePackets, HasHeardHalves}

-- a list of half-bits determines the packets in it: two lists of packets in the same `halves` are
-- equal
abbrev pub OneListOfPackets : Type 0
OneListOfPackets =
    (halves : List ℕ) (one other : List Packet) → ArePackets one halves → ArePackets other halves → one ≡ other

-- for each list of half-bits there is a list of the packets in it
abbrev pub SomeListOfPackets : Type 0
SomeListOfPackets = (halves : List ℕ) → (packets : List Packet) × ArePackets packets halves

-- if the identity and the registers of a decoder do not change, the decoder has heard the empty
-- list of half-bits
abbrev pub NoHalvesHeard : Type 0
NoHalvesHeard = (who : Who) (start : RegisterMap) → HasHeardHalves [] who start who start

-- the packets in the half-bits `left` and the packets in the half-bits `right` are alike for
-- decoder `who`
pub record AlikeHalves (who : Who) (left right : List ℕ) : Type 0 where
  pub packets : List Packet
  pub others : List Packet
  pub seen : ArePackets packets left
  pub others_seen : ArePackets others right
  pub alike : AlikeFor who packets others

-- let the packets in `left` and the packets in `right` be alike for decoder `who`. For any
-- registers `start`, the decoder then has equal registers after `left` and after `right`.
abbrev pub AlikeHalvesLeaveTheSame : Type 0
AlikeHalvesLeaveTheSame = (who : Who) (start : RegisterMap) (left right : List ℕ) → AlikeHalves who left right →
    (one other : Who) (now after : RegisterMap) → HasHeardHalves left who start one now
    → HasHeardHalves right who start other after → now ≡ after
