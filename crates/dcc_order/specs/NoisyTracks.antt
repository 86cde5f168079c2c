-- Theorems about packets after noise, and about half-bits that are measured with an error. Noise is
-- any list of half-bits.
use Rattle.std.specs.Prelude.{◌≡◌, ◌≤◌, ◌<◌, ◌⊎◌, ◌↔◌, ℕ, ◌+◌, true, false, is_some, List, [], ◌∷◌, ◌++◌, length, map}
use Rattle.std.specs.Prelude.{replicate}
use Rattle.std.specs.List.{filter_map, list_any}
use Rattle.dcc_wire.specs.Framing.{Hunting, rest}
use Rattle.dcc_wire.specs.Jitter.{AllNominal, AreWithin, CanBeSentAs}
use Rattle.dcc_wire.specs.Recovery.{open_end, at_open_end}
use Rattle.dcc_wire.specs.Sending.{sent_all}
use Rattle.dcc_packet.specs.declared.packet.Packet.{Packet}
use Rattle.dcc_packet.specs.Spelling.{spelling}
use Rattle.dcc_regs.specs.declared.register.Who.{Who}
use Rattle.dcc_regs.specs.declared.register.Register.TheVariants.{Speed as SpeedRegister}
use Rattle.dcc_regs.specs.Heard.{hears, heard}
use Rattle.dcc_regs.specs.Result.{RegisterMap, result}
use Rattle.dcc_regs.specs.Safety.{is_standing, is_stop_packet, can_move}
use Rattle.dcc_order.specs.Hearing.{ArePackets, HasHeardHalves, packet_frame}
use Rattle.dcc_order.specs.SendingLaws.{SentPacket, spelled_out}

-- the half-bits of the packets `sent`, one packet after the other
abbrev pub halves_of_sent : List SentPacket → List ℕ
halves_of_sent sent = sent_all (map spelled_out sent)

-- the packets of the list `sent`, without their timings
abbrev pub packets_of_sent : List SentPacket → List Packet
packets_of_sent sent = map (λ one. one.packet) sent

-- the packets `first` and `others` are sent after `noise`, and all half-bits together contain the
-- packets `all`. The list `all` has the packets of the noise, at most one packet of an unfinished
-- body, `first` unless it is lost, and `others`.
pub record CanBeHeardAfterNoise (noise : List ℕ) (first : SentPacket) (others : List SentPacket) (all : List Packet)
    : Type 0 where
  -- the packets in the noise
  pub before : List Packet
  pub in_noise : ArePackets before noise
  -- at most one packet: the outcome of the body that the noise leaves unfinished, if this outcome is a
  -- packet
  pub unfinished : List Packet
  pub of_open_body : map spelling unfinished
      ≡ filter_map (λ at. packet_frame at.1) (at_open_end (length noise) (open_end noise))
  pub at_most_one : length unfinished ≤ 1
  -- a list with the packet `first`, or an empty list if `first` is lost. If the preamble of `first`
  -- has at least 18 ones, `first` is not lost.
  pub kept : List Packet
  pub kept_or_lost : (kept ≡ first.packet ∷ []) ⊎ ((kept ≡ []) × (first.timing.preamble < 18))
  -- `first` is lost only if the noise leaves a body unfinished
  pub lost_by_body : kept ≡ [] → is_some (open_end noise) ≡ true
  -- all packets of `others`, in order, and no further packet
  pub parts : all ≡ before ++ unfinished ++ kept ++ packets_of_sent others

-- The packet `first` is sent after noise, and other packets follow. Only `first` can be lost, and
-- all other packets are heard. `all` are the packets in the noise and in the half-bits after the
-- noise.
abbrev pub NoiseCostsNoPacketButTheFirst : Type 0
NoiseCostsNoPacketButTheFirst =
    (noise : List ℕ) (first : SentPacket) (others : List SentPacket) (all : List Packet)
    → ArePackets all (noise ++ halves_of_sent (first ∷ others)) → CanBeHeardAfterNoise noise first others all

-- if no body is unfinished after `noise`, exactly the packets that are sent after the noise are
-- heard in addition to the packets of the noise. The noise contains the packets `before`.
abbrev pub NoiseBetweenBodiesCostsNoPacket : Type 0
NoiseBetweenBodiesCostsNoPacket =
    (noise : List ℕ) (ones : ℕ) (before : List Packet) (sent : List SentPacket) → rest noise ≡ Hunting ones
    → ArePackets before noise → ArePackets (before ++ packets_of_sent sent) (noise ++ halves_of_sent sent)

-- let a decoder hear noise, and then the half-bits of the packets `first` and `others`. The
-- registers of the decoder are then the result of a list of packets `all` for which
-- `CanBeHeardAfterNoise` holds.
abbrev pub DecodersHearPacketsAfterNoise : Type 0
DecodersHearPacketsAfterNoise =
    (noise : List ℕ) (first : SentPacket) (others : List SentPacket) (who who' : Who) (start now : RegisterMap)
    → HasHeardHalves (noise ++ halves_of_sent (first ∷ others)) who start who' now
    → (all : List Packet) × CanBeHeardAfterNoise noise first others all × (now ≡ result who start all)

-- let each half-bit of the packets `sent` be measured with an error of at most 3 microseconds. The
-- measured half-bits contain exactly these packets.
abbrev pub MeasuredPacketsAreHeard : Type 0
MeasuredPacketsAreHeard =
    (sent : List SentPacket) (measured : List ℕ) → AreWithin 3 (halves_of_sent sent) measured
    → ArePackets (packets_of_sent sent) measured

-- errors of at most 3 microseconds in the half-bits `measured` of sent packets do not change what a
-- decoder hears. A decoder has heard `measured` between `before` and `after` if and only if it has
-- heard the exact half-bits between `before` and `after`.
abbrev pub MeasuringChangesNoDecoder : Type 0
MeasuringChangesNoDecoder =
    (sent : List SentPacket) (before measured after : List ℕ) (who who' : Who) (start now : RegisterMap)
    → AreWithin 3 (halves_of_sent sent) measured
    → HasHeardHalves (before ++ measured ++ after) who start who' now
    ↔ HasHeardHalves (before ++ halves_of_sent sent ++ after) who start who' now

-- let each half-bit of the packets `sent` be within the limits of a station by itself, and be measured
-- with an error of at most 3 microseconds. The measured half-bits contain exactly these packets.
abbrev pub VariedPacketsAreHeard : Type 0
VariedPacketsAreHeard =
    (sent : List SentPacket) (durations measured : List ℕ) → CanBeSentAs (map spelled_out sent) durations
    → AreWithin 3 durations measured → ArePackets (packets_of_sent sent) measured

-- let each half-bit of the packets `sent` have the nominal duration, and be measured with an error of at
-- most 6 microseconds. The measured half-bits contain exactly these packets.
abbrev pub NominalPacketsAreHeard : Type 0
NominalPacketsAreHeard =
    (sent : List SentPacket) (measured : List ℕ) → AllNominal (map spelled_out sent)
    → AreWithin 6 (halves_of_sent sent) measured → ArePackets (packets_of_sent sent) measured

-- let the half-bits `measured` be as in `VariedPacketsAreHeard`. A decoder has heard `measured` between
-- `before` and `after` if and only if it has heard the half-bits of `sent` between `before` and `after`.
abbrev pub VaryingChangesNoDecoder : Type 0
VaryingChangesNoDecoder =
    (sent : List SentPacket) (before durations measured after : List ℕ) (who who' : Who) (start now : RegisterMap)
    → CanBeSentAs (map spelled_out sent) durations → AreWithin 3 durations measured
    → HasHeardHalves (before ++ measured ++ after) who start who' now
    ↔ HasHeardHalves (before ++ halves_of_sent sent ++ after) who start who' now

-- the half-bits of the packets `earlier`, and then of copies of the packet `copy`, with `noise` in
-- place of one copy. There are `copies` copies before the noise and `more` copies after the noise.
abbrev pub copies_around_noise : List SentPacket → SentPacket → ℕ → ℕ → List ℕ → List ℕ
copies_around_noise earlier copy copies more noise =
    halves_of_sent (earlier ++ replicate copies copy) ++ noise ++ halves_of_sent (replicate more copy)

-- If noise replaces one of three copies of a packet, the packet is heard. The half-bits of the
-- copies and any half-bits `further` contain the packets `all`: the packets `earlier`, some packets
-- `between`, the packet, and the packets `after`.
abbrev pub OneOfThreeCopiesIsHeard : Type 0
OneOfThreeCopiesIsHeard =
    (earlier : List SentPacket) (copy : SentPacket) (copies more : ℕ) (noise further : List ℕ) (all : List Packet)
    → copies + more ≡ 2 → ArePackets all (copies_around_noise earlier copy copies more noise ++ further)
    → (between : List Packet) × (after : List Packet)
    × (all ≡ packets_of_sent earlier ++ between ++ copy.packet ∷ after)

-- Let noise replace one of three copies of the packet `stop`, which the decoder hears. The
-- locomotive stands at the end if no heard packet after the packets `earlier` sets the speed to a
-- step. `later` are all packets after `earlier`: the copies, the packets of the noise, and the
-- packets of the half-bits `further`, which come after the copies.
abbrev pub OneOfThreeStopsIsEnough : Type 0
OneOfThreeStopsIsEnough =
    (earlier : List SentPacket) (stop : SentPacket) (copies more : ℕ) (noise further : List ℕ) (later : List Packet)
    (who who' : Who) (start now : RegisterMap) → copies + more ≡ 2
    → let track = copies_around_noise earlier stop copies more noise ++ further in
    ArePackets (packets_of_sent earlier ++ later) track → HasHeardHalves track who start who' now
    → is_some (start SpeedRegister) ≡ true → hears who stop.packet ≡ true → is_stop_packet stop.packet ≡ true
    → list_any can_move (heard who later) ≡ false → is_standing (now SpeedRegister) ≡ true

-- the half-bits `before`, and then those of copies of the packet `copy`, with `noise` in place of one
-- copy. There are `copies` copies before the noise and `more` copies after the noise.
abbrev pub copies_after : List ℕ → SentPacket → ℕ → ℕ → List ℕ → List ℕ
copies_after before copy copies more noise =
    (before ++ halves_of_sent (replicate copies copy)) ++ noise ++ halves_of_sent (replicate more copy)

-- Any half-bits `start`, which can be noise, come before the whole packets `first` and `earlier`, and
-- `front` are the packets of all these half-bits. If noise then replaces one of three copies of a
-- packet, the packet is heard.
abbrev pub OneOfThreeCopiesIsHeardAfterNoise : Type 0
OneOfThreeCopiesIsHeardAfterNoise =
    (start : List ℕ) (first : SentPacket) (earlier : List SentPacket) (copy : SentPacket) (copies more : ℕ)
    (noise further : List ℕ) (front all : List Packet) → copies + more ≡ 2
    → let before = start ++ halves_of_sent (first ∷ earlier) in
    ArePackets front before → ArePackets all (copies_after before copy copies more noise ++ further)
    → (between : List Packet) × (after : List Packet) × (all ≡ front ++ between ++ copy.packet ∷ after)

-- Let `front` be as in `OneOfThreeCopiesIsHeardAfterNoise`, and let the copies be copies of the packet
-- `stop`, which the decoder hears. The locomotive stands at the end if no heard packet after `front` sets
-- the speed to a step.
abbrev pub OneOfThreeStopsIsEnoughAfterNoise : Type 0
OneOfThreeStopsIsEnoughAfterNoise =
    (start : List ℕ) (first : SentPacket) (earlier : List SentPacket) (stop : SentPacket) (copies more : ℕ)
    (noise further : List ℕ) (front later : List Packet) (who who' : Who) (begin now : RegisterMap)
    → copies + more ≡ 2
    → let before = start ++ halves_of_sent (first ∷ earlier) in
    let track = copies_after before stop copies more noise ++ further in
    ArePackets front before → ArePackets (front ++ later) track → HasHeardHalves track who begin who' now
    → is_some (begin SpeedRegister) ≡ true → hears who stop.packet ≡ true → is_stop_packet stop.packet ≡ true
    → list_any can_move (heard who later) ≡ false → is_standing (now SpeedRegister) ≡ true
