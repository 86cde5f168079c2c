-- Each list of half-bits contains a list of packets.
use Rattle.std.proofs.Common.{◌≡◌, ℕ, List, [], ◌∷◌, ◌++◌, Option, Some, None, map, refl, sym, ◌∙◌, drop}
use Rattle.std.proofs.lemmas.List.{map-append}
use Rattle.std.proofs.lemmas.Option.{some_pair_parts}
use Rattle.dcc_wire.specs.declared.half.Half.{Half}
use Rattle.dcc_wire.specs.declared.half.Half.TheVariants.{One, Zero, Bad}
use Rattle.dcc_wire.specs.declared.seen.Fault.{Fault}
use Rattle.dcc_wire.specs.declared.seen.Fault.TheVariants.{BadHalf, SplitBit, TooShort}
use Rattle.dcc_wire.specs.declared.seen.Seen.{Seen}
use Rattle.dcc_wire.specs.declared.seen.Seen.TheVariants.{Nothing, Packet as PacketSeen, Refused}
use Rattle.dcc_wire.specs.Frames.{IsFrame}
use Rattle.dcc_wire.specs.Framing.{starts}
use Rattle.dcc_wire.specs.Half.{class_of}
use Rattle.dcc_wire.specs.Outcomes.{bits_in, bytes_in, body_outcome, by_halves, outcome_of}
use Rattle.dcc_wire.specs.Inner.OutcomesAt.{outcome_at, outcomes_at}
use Rattle.dcc_wire.specs.Inner.OutcomeParts.{behind_bits, by_bits}
use Rattle.dcc_wire.proofs.OutcomeRows.{outcomes-rows}
use Rattle.dcc_wire.proofs.OutcomesAt.{seen_at}
use Rattle.dcc_packet.specs.declared.packet.Packet.{Packet}
use Rattle.dcc_packet.specs.Spelling.{spelling}
use Rattle.dcc_order.specs.HearingLaws.{SomeListOfPackets}
use Rattle.dcc_order.proofs.FramesArePackets.{frames_are_packets}
use Rattle.dcc_order.proofs.HearingLemmas.{frames_among, frames_in-append}

refused_is_no_packet : (outcome : Option (ℕ × Seen)) (m n : ℕ) (fault : Fault) (bytes : List ℕ)
    → outcome ≡ Some (m, Refused fault) → outcome ≡ Some (n, PacketSeen bytes) → IsFrame bytes
refused_is_no_packet outcome m n fault bytes e f =
    let same : Refused fault ≡ PacketSeen bytes =
    (some_pair_parts m n (Refused fault) (PacketSeen bytes) (sym e ∙ f)).1 in
    absurd (cc)

-- a packet is an outcome only if its bytes are a frame
packet_is_frame : (halves : List Half) (n : ℕ) (bytes : List ℕ) → outcome_of halves ≡ Some (n, PacketSeen bytes)
    → IsFrame bytes
unfolding outcome_of bits_in behind_bits bytes_in body_outcome by_bits by_halves
packet_is_frame [] n bytes e = absurd (cc)
packet_is_frame (Zero ∷ more) n bytes e = ((outcomes-rows more n (PacketSeen bytes)).1 e).1.0
packet_is_frame (Bad ∷ more) n bytes e = refused_is_no_packet _ 1 n BadHalf bytes refl e
packet_is_frame (One ∷ []) n bytes e = absurd (cc)
packet_is_frame (One ∷ One ∷ more) n bytes e = refused_is_no_packet _ 2 n TooShort bytes refl e
packet_is_frame (One ∷ Zero ∷ more) n bytes e = refused_is_no_packet _ 2 n SplitBit bytes refl e
packet_is_frame (One ∷ Bad ∷ more) n bytes e = refused_is_no_packet _ 2 n BadHalf bytes refl e

abbrev Contents : List (ℕ × Seen) → Type 0
Contents outcomes = (packets : List Packet) × (map spelling packets ≡ frames_among outcomes)

of_outcome : (halves : List Half) (start : ℕ) (end : Option (ℕ × Seen)) → outcome_of (drop start halves) ≡ end
    → Contents (outcome_at halves start)
unfolding outcome_at
of_outcome halves start None e = rw e ([], refl)
of_outcome halves start (Some (n, PacketSeen bytes)) e =
    let p = frames_are_packets bytes (packet_is_frame (drop start halves) n bytes e) in
    rw e (p.0 ∷ [], rw p.1 refl)
of_outcome halves start (Some (n, Nothing)) e = rw e ([], refl)
of_outcome halves start (Some (n, Refused fault)) e = rw e ([], refl)

of_outcomes : (halves : List Half) (places : List ℕ) → Contents (outcomes_at halves places)
unfolding outcomes_at
of_outcomes halves [] = ([], refl)
of_outcomes halves (start ∷ earlier) =
    let before = of_outcomes halves earlier in
    let here = of_outcome halves start (outcome_of (drop start halves)) refl in (
      before.0 ++ here.0,
      map-append spelling before.0 here.0
          ∙ rw (before.1, here.1) (sym (frames_in-append (outcomes_at halves earlier) (outcome_at halves start))),
    )

pub some_list_of_packets : SomeListOfPackets
some_list_of_packets halves =
    rw (seen_at halves) (of_outcomes (map class_of halves) (starts (map class_of halves)))
