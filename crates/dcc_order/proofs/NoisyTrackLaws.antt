-- Packets that are heard after noise, or with errors of measurement.
use Rattle.std.proofs.Common.{◌≡◌, ℕ, suc, zero, ◌+◌, ◌*◌, ◌<◌, ◌≤◌, ◌⊎◌, inl, inr, Bool, true, false}
use Rattle.std.proofs.Common.{List, [], ◌∷◌, ◌++◌}
use Rattle.std.proofs.Common.{map, length, append_assoc, append-nil, Option, Some, None, refl, sym, ap, ◌∙◌}
use Rattle.std.proofs.Common.{subst, arith, replicate}
use Rattle.std.proofs.lemmas.Bool.{cases_lt}
use Rattle.std.proofs.lemmas.Bool.Decides.{nat_tests}
use Rattle.std.proofs.lemmas.List.{map-append, length-map, append_cancel_left}
use Rattle.std.specs.Prelude.{◌||◌, if◌then◌else◌, is_some}
use Rattle.std.specs.List.{list_any}
use Rattle.dcc_wire.specs.declared.seen.Seen.{Seen}
use Rattle.dcc_wire.specs.declared.seen.Seen.TheVariants.{Nothing, Packet as PacketSeen, Refused}
use Rattle.dcc_wire.specs.Framing.{Rest, Hunting, InBody, rest, seen, rest_at, hunting, starts_below, used_up}
use Rattle.dcc_wire.specs.Framing.{ones_at_end, ones_before}
use Rattle.dcc_wire.specs.Recovery.{ended_by_ones, open_end, at_open_end, at_first}
use Rattle.dcc_wire.specs.Sending.{Sent, sent, sent_all, at_last_halves, AllFrames}
use Rattle.dcc_wire.proofs.JitterLemmas.{measured-anywhere, measured-seen, nominal-seen, varied-anywhere, varied-seen}
use Rattle.dcc_wire.proofs.RecoveryLemmas.{others_seen, first_after, first_seen, soon, none_open, sent_all-append}
use Rattle.dcc_wire.proofs.SeenLemmas.{seen-grows}
use Rattle.dcc_wire.proofs.SendingLemmas.{sent_delivered}
use Rattle.dcc_packet.specs.declared.packet.Packet.{Packet}
use Rattle.dcc_packet.specs.Spelling.{spelling}
use Rattle.dcc_regs.specs.declared.register.Who.{Who}
use Rattle.dcc_regs.specs.Heard.{hears, heard}
use Rattle.dcc_regs.specs.declared.register.Register.TheVariants.{Speed as SpeedRegister}
use Rattle.dcc_regs.specs.Result.{RegisterMap}
use Rattle.dcc_regs.specs.Safety.{can_move, is_standing, is_stop_packet}
use Rattle.dcc_order.specs.Hearing.{ArePackets, HasHeardHalves}
use Rattle.dcc_order.specs.SendingLaws.{SentPacket, spelled_out}
use Rattle.dcc_order.specs.NoisyTracks.{halves_of_sent, packets_of_sent, copies_around_noise, copies_after}
use Rattle.dcc_order.specs.NoisyTracks.{CanBeHeardAfterNoise}
use Rattle.dcc_order.specs.NoisyTracks.{NoiseCostsNoPacketButTheFirst, NoiseBetweenBodiesCostsNoPacket}
use Rattle.dcc_order.specs.NoisyTracks.{DecodersHearPacketsAfterNoise, MeasuredPacketsAreHeard}
use Rattle.dcc_order.specs.NoisyTracks.{MeasuringChangesNoDecoder, OneOfThreeCopiesIsHeard, OneOfThreeStopsIsEnough}
use Rattle.dcc_order.specs.NoisyTracks.{NominalPacketsAreHeard, VariedPacketsAreHeard, VaryingChangesNoDecoder}
use Rattle.dcc_order.specs.NoisyTracks.{OneOfThreeCopiesIsHeardAfterNoise, OneOfThreeStopsIsEnoughAfterNoise}
use Rattle.dcc_order.proofs.HearingLemmas.{same_packets, frames_among, frames_in-append, no_packet}
use Rattle.dcc_order.proofs.SentAndHeard.{all_frames, frames_at_last_halves, sent_packets_are_heard}
use Rattle.dcc_order.proofs.SafeTrackLaws.{last_stop_stops}

-- the packets of two lists of frames
record IsSplit (packets : List Packet) (front back : List (List ℕ)) : Type 0 where
  first : List Packet
  later : List Packet
  parts : packets ≡ first ++ later
  in_front : map spelling first ≡ front
  in_back : map spelling later ≡ back

split_on : (p : Packet) (packets : List Packet) (front back : List (List ℕ)) → IsSplit packets front back
    → IsSplit (p ∷ packets) (spelling p ∷ front) back
split_on p packets front back s = record {
  first = p ∷ s.first;
  later = s.later;
  parts = rw s.parts refl;
  in_front = rw s.in_front refl;
  in_back = s.in_back;
}

split : (packets : List Packet) (front back : List (List ℕ)) → map spelling packets ≡ front ++ back
    → IsSplit packets front back
split packets [] back e = record { first = []; later = packets; parts = refl; in_front = refl; in_back = e }
split [] (frame ∷ front) back e = absurd (cc)
split (p ∷ packets) (frame ∷ front) back e =
    let here : spelling p ≡ frame = cc in
    let later : map spelling packets ≡ front ++ back = cc in
    rw (← here) (split_on p packets front back (split packets front back later))

-- a body that the noise leaves unfinished has at most one packet
one_frame : (place : ℕ) (outcome : Seen) → length (frames_among ((place, outcome) ∷ [])) ≤ 1
one_frame place Nothing = omega arith
one_frame place (PacketSeen frame) = omega arith
one_frame place (Refused fault) = omega arith

few_of_open : (place : ℕ) (end : Option (ℕ × Seen)) → length (frames_among (at_open_end place end)) ≤ 1
unfolding at_open_end
few_of_open place None = omega arith
few_of_open place (Some p) = one_frame place p.1

-- the first packet is kept, or it is lost and its preamble is short
abbrev KeptOrLost : ℕ → Option (ℕ × Seen) → Sent → Type 0
KeptOrLost place end first =
    (frames_among (at_first place end first) ≡ first.bytes ∷ [])
    ⊎ ((frames_among (at_first place end first) ≡ []) × (first.timing.preamble < 18))

kept_at_end : (place n : ℕ) (outcome : Seen) (first : Sent) → n ≤ 18 → KeptOrLost place (Some (n, outcome)) first
unfolding at_first at_last_halves
kept_at_end place n outcome first few = elim (cases_lt (2 * first.timing.preamble) (n + 18)) [
  | inl late ↦
      let lost : at_first place (Some (n, outcome)) first ≡ [] = grind (arith, nat_tests) in
      inr (ap frames_among lost, omega (arith, late, few))
  | inr early ↦
      let kept : at_first place (Some (n, outcome)) first ≡ at_last_halves place (first ∷ []) =
      grind (arith, nat_tests) in
      inl (ap frames_among kept)
]

kept_or_lost : (noise : List ℕ) (first : Sent) → KeptOrLost (length noise) (open_end noise) first
unfolding at_first ended_by_ones at_last_halves
kept_or_lost noise first = by_rest (rest noise) refl
  where
    by_rest : (state : Rest) → rest noise ≡ state → KeptOrLost (length noise) (open_end noise) first
    by_rest (Hunting ones) hunts = rw hunts (inl refl)
    by_rest (InBody halves) inside =
        let end = soon noise halves inside in
        rw end.2 (kept_at_end (length noise) end.0 end.1 first end.4)

-- without an unfinished body the first packet is kept
open_if_lost : (place : ℕ) (end : Option (ℕ × Seen)) (first : Sent) → frames_among (at_first place end first) ≡ []
    → is_some end ≡ true
unfolding at_first at_last_halves
open_if_lost place None first none = absurd (cc)
open_if_lost place (Some p) first none = refl

-- the frames after noise
frames_after : (noise : List ℕ) (first : SentPacket) (others : List SentPacket)
    → frames_among (seen (noise ++ halves_of_sent (first ∷ others)))
    ≡ frames_among (seen noise) ++ frames_among (at_open_end (length noise) (open_end noise))
    ++ frames_among (at_first (length noise) (open_end noise) (spelled_out first))
    ++ map spelling (packets_of_sent others)
unfolding AllFrames
frames_after noise first others =
    let one : Sent = spelled_out first in
    let frames = all_frames (first ∷ others) in
    let ended : List (ℕ × Seen) = at_open_end (length noise) (open_end noise) in
    let own : List (ℕ × Seen) = at_first (length noise) (open_end noise) one in
    let place : ℕ = length (noise ++ sent_all (one ∷ [])) in
    let later : List (ℕ × Seen) = at_last_halves place (map spelled_out others) in
    ap frames_among (others_seen noise one (map spelled_out others) frames
    ∙ ap (λ l. l ++ later) (first_seen noise one frames.0))
    ∙ rw (
      frames_in-append (seen noise ++ ended ++ own) later,
      frames_in-append (seen noise ++ ended) own,
      frames_in-append (seen noise) ended,
      frames_at_last_halves place others,
    ) refl

-- the packets after noise, from the lists of frames
module _ (noise : List ℕ) (first : SentPacket) (others : List SentPacket) where
  abbrev ended : List (List ℕ)
  ended = frames_among (at_open_end (length noise) (open_end noise))

  abbrev own : List (List ℕ)
  own = frames_among (at_first (length noise) (open_end noise) (spelled_out first))

  joined : (all : List Packet)
      → (a : IsSplit all (frames_among (seen noise) ++ ended ++ own) (map spelling (packets_of_sent others)))
      → (b : IsSplit a.first (frames_among (seen noise) ++ ended) own)
      → (c : IsSplit b.first (frames_among (seen noise)) ended) → CanBeHeardAfterNoise noise first others all
  joined all a b c = record {
    before = c.first;
    in_noise = c.in_front;
    unfinished = c.later;
    of_open_body = c.in_back;
    at_most_one = omega (
      arith,
      few_of_open (length noise) (open_end noise),
      ap length c.in_back,
      length-map c.later spelling,
    );
    kept = b.later;
    kept_or_lost = elim (kept_or_lost noise (spelled_out first)) [
      | inl kept ↦ inl (same_packets b.later (first.packet ∷ []) (b.in_back ∙ kept))
      | inr lost ↦ inr (no_packet b.later (b.in_back ∙ lost.0), lost.1)
    ];
    lost_by_body = λ none.
        open_if_lost (length noise) (open_end noise) (spelled_out first)
        (sym b.in_back ∙ ap (λ l. map spelling l) none);
    parts = a.parts ∙ ap (λ l. l ++ a.later) (b.parts ∙ ap (λ l. l ++ b.later) c.parts)
        ∙ ap (λ l. c.first ++ c.later ++ b.later ++ l) (same_packets a.later (packets_of_sent others) a.in_back);
  }

pub noise_costs_no_packet_but_the_first : NoiseCostsNoPacketButTheFirst
noise_costs_no_packet_but_the_first noise first others all are =
    let outside : List (List ℕ) = frames_among (seen noise) in
    let a = split all (outside ++ ended noise first others ++ own noise first others)
    (map spelling (packets_of_sent others)) (are ∙ frames_after noise first others) in
    let b = split a.first (outside ++ ended noise first others) (own noise first others) a.in_front in
    joined noise first others all a b (split b.first outside (ended noise first others) b.in_front)

pub noise_between_bodies_costs_no_packet : NoiseBetweenBodiesCostsNoPacket
noise_between_bodies_costs_no_packet noise ones before sent hunts are =
    map-append spelling before (packets_of_sent sent)
    ∙ rw (are, frames_at_last_halves (length noise) sent)
    (sym (frames_in-append (seen noise) (at_last_halves (length noise) (map spelled_out sent))))
    ∙ sym (ap frames_among (none_open noise ones (map spelled_out sent) hunts (all_frames sent)))

pub decoders_hear_packets_after_noise : DecodersHearPacketsAfterNoise
decoders_hear_packets_after_noise noise first others who who' start now h =
    (h.packets, noise_costs_no_packet_but_the_first noise first others h.packets h.seen, h.heard.registers)

-- errors of measurement

pub measured_packets_are_heard : MeasuredPacketsAreHeard
measured_packets_are_heard sent measured within =
    frames_at_last_halves 0 sent
    ∙ sym (ap frames_among (measured-seen (map spelled_out sent) measured (all_frames sent) within))

-- decoders hear the outcomes
hears_seen : (halves others : List ℕ) → seen halves ≡ seen others → {who who' : _} {start now : _}
    → HasHeardHalves halves who start who' now → HasHeardHalves others who start who' now
hears_seen halves others e h =
    record { packets = h.packets; seen = h.seen ∙ ap frames_among e; heard = h.heard }

pub measuring_changes_no_decoder : MeasuringChangesNoDecoder
measuring_changes_no_decoder sent before measured after who who' start now within =
    let same = measured-anywhere (map spelled_out sent) before measured after within in
    (hears_seen _ _ same, hears_seen _ _ (sym same))

pub varied_packets_are_heard : VariedPacketsAreHeard
varied_packets_are_heard sent durations measured can within =
    frames_at_last_halves 0 sent
    ∙ sym (ap frames_among (varied-seen (map spelled_out sent) durations measured (all_frames sent) can within))

pub nominal_packets_are_heard : NominalPacketsAreHeard
nominal_packets_are_heard sent measured all within =
    frames_at_last_halves 0 sent
    ∙ sym (ap frames_among (nominal-seen (map spelled_out sent) measured (all_frames sent) all within))

pub varying_changes_no_decoder : VaryingChangesNoDecoder
varying_changes_no_decoder sent before durations measured after who who' start now can within =
    let same = varied-anywhere (map spelled_out sent) before durations measured after can within in
    (hears_seen _ _ same, hears_seen _ _ (sym same))

-- copies

-- the packets of half-bits are heard first, and then those of the half-bits after them
heard_first : (halves more : List ℕ) (all : List Packet) → ArePackets all (halves ++ more)
    → (first : List Packet) × (later : List Packet) × ArePackets first halves × (all ≡ first ++ later)
heard_first halves more all are =
    let grown = seen-grows halves more in
    let s = split all (frames_among (seen halves)) (frames_among grown.0)
    (are ∙ ap frames_among grown.1 ∙ frames_in-append (seen halves) grown.0) in
    (s.first, s.later, s.in_front, s.parts)

-- if no heard packet of a list moves, no heard packet of its end moves
calm_end : (who : Who) (front later : List Packet) → list_any can_move (heard who (front ++ later)) ≡ false
    → list_any can_move (heard who later) ≡ false
calm_end who [] later calm = calm
calm_end who (p ∷ front) later calm = calm_end who front later (by_hearing (hears who p) calm)
  where
    by_hearing : (t : Bool)
        → list_any can_move (if t then p ∷ heard who (front ++ later) else heard who (front ++ later)) ≡ false
        → list_any can_move (heard who (front ++ later)) ≡ false
    by_hearing true e = by_first (can_move p) e
      where
        by_first : (moves : Bool) → (moves || list_any can_move (heard who (front ++ later))) ≡ false
            → list_any can_move (heard who (front ++ later)) ≡ false
        by_first false e = e
        by_first true e = absurd (cc)
    by_hearing false e = e

-- no body is unfinished after `before`, whose packets are `front`
module _ (before : List ℕ) (ones : ℕ) (front : List Packet) (hunts : rest before ≡ Hunting ones)
    (are_front : ArePackets front before) where
  -- the packets of `before` and of packets that are sent after it are heard first
  sent_first : (sent : List SentPacket) (more : List ℕ) (all : List Packet)
      → ArePackets all ((before ++ halves_of_sent sent) ++ more)
      → (later : List Packet) × (all ≡ (front ++ packets_of_sent sent) ++ later)
  sent_first sent more all are =
      let s = heard_first (before ++ halves_of_sent sent) more all are in
      let same : s.0 ≡ front ++ packets_of_sent sent =
      same_packets s.0 (front ++ packets_of_sent sent)
      (s.2 ∙ sym (noise_between_bodies_costs_no_packet before ones front sent hunts are_front)) in
      (s.1, s.3 ∙ ap (λ l. l ++ s.1) same)

  -- a copy is heard, if the half-bits end with the copies
  copy_is_heard : (copy : SentPacket) (copies more : ℕ) (noise : List ℕ) (all : List Packet) → copies + more ≡ 2
      → ArePackets all (copies_after before copy copies more noise)
      → (between : List Packet) × (after : List Packet) × (all ≡ front ++ between ++ copy.packet ∷ after)
  copy_is_heard copy zero more noise all two are =
      let both : more ≡ 2 = omega arith in
      let w = noise_costs_no_packet_but_the_first ((before ++ halves_of_sent []) ++ noise) copy (copy ∷ []) all
      (rw both at are) in
      let begins = sent_first [] noise w.before w.in_noise in (
        begins.0 ++ w.unfinished ++ w.kept,
        [],
        w.parts
            ∙ ap (λ l. l ++ w.unfinished ++ w.kept ++ copy.packet ∷ [])
            (begins.1 ∙ ap (λ l. l ++ begins.0) (append-nil front))
            ∙ ap (λ l. l ++ copy.packet ∷ [])
            (ap (λ l. l ++ w.kept) (append_assoc front begins.0 w.unfinished)
            ∙ append_assoc front (begins.0 ++ w.unfinished) w.kept),
      )
  copy_is_heard copy (suc copies) more noise all two are =
      let own : List Packet = packets_of_sent (replicate copies copy) in
      let tail : List ℕ = halves_of_sent (replicate more copy) in
      let sent : List ℕ = before ++ halves_of_sent (replicate (suc copies) copy) in
      let w = sent_first (replicate (suc copies) copy) (noise ++ tail) all
      (subst (ArePackets all) (append_assoc sent noise tail) are) in (
        [],
        own ++ w.0,
        w.1 ∙ append_assoc front (copy.packet ∷ own) w.0
            ∙ ap (λ l. l ++ copy.packet ∷ (own ++ w.0)) (sym (append-nil front)),
      )

  -- a copy is heard, if any half-bits follow
  copy_is_heard_before : (copy : SentPacket) (copies more : ℕ) (noise further : List ℕ) (all : List Packet)
      → copies + more ≡ 2 → ArePackets all (copies_after before copy copies more noise ++ further)
      → (between : List Packet) × (after : List Packet) × (all ≡ front ++ between ++ copy.packet ∷ after)
  copy_is_heard_before copy copies more noise further all three are =
      let s = heard_first (copies_after before copy copies more noise) further all are in
      let c = copy_is_heard copy copies more noise s.0 three s.2 in
      let first : List Packet = front ++ c.0 in
      (c.0, c.1 ++ s.1, s.3 ∙ ap (λ l. l ++ s.1) c.2 ∙ append_assoc first (copy.packet ∷ c.1) s.1)

  -- a copy of a stop is enough
  stop_is_enough : (stop : SentPacket) (copies more : ℕ) (noise further : List ℕ) (later : List Packet)
      (who who' : Who) (start now : RegisterMap) → copies + more ≡ 2
      → let track = copies_after before stop copies more noise ++ further in
      ArePackets (front ++ later) track → HasHeardHalves track who start who' now
      → is_some (start SpeedRegister) ≡ true → hears who stop.packet ≡ true → is_stop_packet stop.packet ≡ true
      → list_any can_move (heard who later) ≡ false → is_standing (now SpeedRegister) ≡ true
  stop_is_enough stop copies more noise further later who who' start now three are h there hear stops calm =
      let track : List ℕ = copies_after before stop copies more noise ++ further in
      let c = copy_is_heard_before stop copies more noise further (front ++ later) three are in
      let parts : later ≡ c.0 ++ stop.packet ∷ c.1 =
      append_cancel_left front later (c.0 ++ stop.packet ∷ c.1) (c.2 ∙ append_assoc front c.0 (stop.packet ∷ c.1)) in
      let after : list_any can_move (heard who (c.0 ++ stop.packet ∷ [] ++ c.1)) ≡ false =
      subst (λ l. list_any can_move (heard who l) ≡ false)
      (parts ∙ sym (append_assoc c.0 (stop.packet ∷ []) c.1)) calm in
      let all_are : ArePackets (front ++ c.0 ++ stop.packet ∷ c.1) track = subst (λ l. ArePackets l track) c.2 are in
      last_stop_stops track (front ++ c.0) stop.packet c.1 who who' start now all_are h there hear stops
      (calm_end who (c.0 ++ stop.packet ∷ []) c.1 after)

-- packets after a new framer leave no body unfinished, and neither does a whole packet after noise

packets_rest : (durations : List ℕ) (ones : ℕ) (packets : List Sent) → AllFrames packets → ones ≤ 20
    → rest durations ≡ Hunting ones → (left : ℕ) × (rest (durations ++ sent_all packets) ≡ Hunting left)
unfolding AllFrames sent_all
packets_rest durations ones [] frames few hunts = (ones, rw append-nil hunts)
packets_rest durations ones (packet ∷ packets) frames few hunts =
    let halves : List ℕ = sent packet.bytes packet.timing in
    let one = sent_delivered durations packet.bytes packet.timing ones frames.0 few hunts in
    let later = packets_rest (durations ++ halves) 2 packets frames.1 (omega arith) one.open_part in
    (later.0, ap rest (sym (append_assoc durations halves (sent_all packets))) ∙ later.1)

new_rest : (earlier : List SentPacket) → (left : ℕ) × (rest (halves_of_sent earlier) ≡ Hunting left)
unfolding rest rest_at hunting starts_below used_up ones_at_end ones_before
new_rest earlier = packets_rest [] 0 (map spelled_out earlier) (all_frames earlier) (omega arith) refl

rest_after_noise : (start : List ℕ) (first : SentPacket) (earlier : List SentPacket)
    → (left : ℕ) × (rest (start ++ halves_of_sent (first ∷ earlier)) ≡ Hunting left)
unfolding AllFrames sent_all
rest_after_noise start first earlier =
    let frames = all_frames (first ∷ earlier) in
    let one : Sent = spelled_out first in
    let w = first_after start one frames.0 in
    let halves : List ℕ = sent one.bytes one.timing in
    let later = packets_rest (start ++ halves) w.ones (map spelled_out earlier) frames.1 w.few w.open_part in
    (later.0, ap rest (sym (append_assoc start halves (halves_of_sent earlier))) ∙ later.1)

-- copies after whole packets
copies_after_whole : (earlier : List SentPacket) (copy : SentPacket) (copies more : ℕ) (noise : List ℕ)
    → copies_around_noise earlier copy copies more noise ≡ copies_after (halves_of_sent earlier) copy copies more noise
copies_after_whole earlier copy copies more noise =
    ap (λ l. l ++ noise ++ halves_of_sent (replicate more copy))
    (ap sent_all (map-append spelled_out earlier (replicate copies copy))
    ∙ sent_all-append (map spelled_out earlier) (map spelled_out (replicate copies copy)))

pub one_of_three_copies_is_heard : OneOfThreeCopiesIsHeard
one_of_three_copies_is_heard earlier copy copies more noise further all three are =
    let w = new_rest earlier in
    copy_is_heard_before (halves_of_sent earlier) w.0 (packets_of_sent earlier) w.1 (sent_packets_are_heard earlier)
    copy copies more noise further all three
    (subst (λ l. ArePackets all (l ++ further)) (copies_after_whole earlier copy copies more noise) are)

pub one_of_three_stops_is_enough : OneOfThreeStopsIsEnough
one_of_three_stops_is_enough earlier stop copies more noise further later who who' start now three are h =
    let w = new_rest earlier in
    let same = copies_after_whole earlier stop copies more noise in
    stop_is_enough (halves_of_sent earlier) w.0 (packets_of_sent earlier) w.1 (sent_packets_are_heard earlier)
    stop copies more noise further later who who' start now three
    (subst (λ l. ArePackets (packets_of_sent earlier ++ later) (l ++ further)) same are)
    (subst (λ l. HasHeardHalves (l ++ further) who start who' now) same h)

pub one_of_three_copies_is_heard_after_noise : OneOfThreeCopiesIsHeardAfterNoise
one_of_three_copies_is_heard_after_noise start first earlier copy copies more noise further front all three are_front =
    let w = rest_after_noise start first earlier in
    copy_is_heard_before (start ++ halves_of_sent (first ∷ earlier)) w.0 front w.1 are_front copy copies more noise
    further all three

pub one_of_three_stops_is_enough_after_noise : OneOfThreeStopsIsEnoughAfterNoise
one_of_three_stops_is_enough_after_noise start first earlier stop copies more noise further front later who who' begin
    now three are_front =
    let w = rest_after_noise start first earlier in
    stop_is_enough (start ++ halves_of_sent (first ∷ earlier)) w.0 front w.1 are_front stop copies more noise further
    later who who' begin now three
