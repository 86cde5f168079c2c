-- How the figures of a list of half-bits grow.
use Rattle.std.proofs.Common.{◌≡◌, ℕ, ◌+◌, ◌-◌, ◌*◌, ◌<◌, ◌≤◌, List, [], ◌∷◌, ◌++◌, length, take, map, sum}
use Rattle.std.proofs.Common.{replicate}
use Rattle.std.proofs.Common.{Option, Some, None, IfSome, refl, sym, ap, ◌∙◌, subst, arith, append_assoc, append-nil}
use Rattle.std.proofs.Common.{length-append}
use Rattle.std.specs.List.{filter_map, flat_map}
use Rattle.std.proofs.lemmas.List.{length-replicate, replicate-append-replicate, take-append-le, take_at, map-append}
use Rattle.std.proofs.lemmas.Grind.{flat_map-append}
use Rattle.std.proofs.lemmas.List.Elements.{filter_map-append}
use Rattle.std.proofs.lemmas.List.Sums.{sum_by-append}
use Rattle.std.proofs.lemmas.List.Folds.{sum_by-replicate}
use Rattle.dcc_wire.specs.declared.seen.Seen.{Seen}
use Rattle.dcc_wire.specs.declared.seen.Seen.TheVariants.{Nothing, Packet, Refused}
use Rattle.dcc_wire.specs.Half.{class_of}
use Rattle.dcc_wire.specs.Framing.{Rest, seen, rest, report_at, StandsFor}
use Rattle.dcc_wire.specs.Inner.Steps.{answer_to}
use Rattle.dcc_wire.proofs.FramingLemmas.{seen-push}
use Rattle.dcc_wire.proofs.SeenLemmas.{seen-none}
use Rattle.dcc_timing.specs.declared.classes.Classes.{Classes}
use Rattle.dcc_timing.specs.declared.outcomes.Outcomes.{Outcomes}
use Rattle.dcc_timing.specs.declared.packets.Packets.{Packets}
use Rattle.dcc_timing.specs.Numbers.{keep_last}
use Rattle.dcc_timing.specs.Classes.{AreClasses}
use Rattle.dcc_timing.specs.Outcomes.{AreOutcomes}
use Rattle.dcc_timing.specs.PacketBits.{AreBits, packet_bits_in, packet_bits_of, packet_length, packet_at, packets_in}
use Rattle.dcc_timing.specs.PacketBits.{pairs}
use Rattle.dcc_timing.specs.Inner.Steps.{bits_among, bits_shown, end_among}
use Rattle.dcc_timing.specs.Gaps.{ends_in}
use Rattle.dcc_timing.specs.KeptGaps.{AreGaps}
use Rattle.dcc_timing.specs.Measured.{AreMeasured}
use Rattle.dcc_timing.proofs.RecentLemmas.{keep_last_keep}

-- each outcome stands at a place below

unfoldable Within : ℕ → List (ℕ × Seen) → Type 0
Within n [] = Unit {0}
Within n (outcome ∷ outcomes) = (outcome.0 < n) × Within n outcomes

within_more : (m n : ℕ) (outcomes : List (ℕ × Seen)) → m ≤ n → Within m outcomes → Within n outcomes
unfolding Within
within_more m n [] longer within = tt
within_more m n (outcome ∷ outcomes) longer within =
    (omega (arith, longer, within.0), within_more m n outcomes longer within.1)

within_append : (n : ℕ) (outcomes more : List (ℕ × Seen)) → Within n outcomes → Within n more
    → Within n (outcomes ++ more)
unfolding Within
within_append n [] more within here = here
within_append n (outcome ∷ outcomes) more within here = (within.0, within_append n outcomes more within.1 here)

within_report : (n place : ℕ) (shown : Seen) → place < n → Within n (report_at place shown)
unfolding Within report_at
within_report n place Nothing below = tt
within_report n place (Packet bytes) below = (below, tt)
within_report n place (Refused fault) below = (below, tt)

within_seen : (halves more : List ℕ) → Within (length halves) (seen halves)
    → Within (length (halves ++ more)) (seen (halves ++ more))
within_seen halves [] within = rw (append-nil halves) within
within_seen halves (us ∷ more) within =
    let longer : length (halves ++ us ∷ []) ≡ length halves + 1 = length-append halves (us ∷ []) in
    let shown : Seen = answer_to (rest halves) (class_of us) in
    let here : Within (length (halves ++ us ∷ [])) (seen halves ++ report_at (length halves) shown) =
    within_append (length (halves ++ us ∷ [])) (seen halves) (report_at (length halves) shown)
    (within_more (length halves) (length (halves ++ us ∷ [])) (seen halves) (omega (arith, longer)) within)
    (within_report (length (halves ++ us ∷ [])) (length halves) shown (omega (arith, longer))) in
    subst (λ l. Within (length l) (seen l)) (append_assoc halves (us ∷ []) more)
    (within_seen (halves ++ us ∷ []) more
    (subst (λ l. Within (length (halves ++ us ∷ [])) l) (sym (seen-push halves us)) here))

places_within : (halves : List ℕ) → Within (length halves) (seen halves)
unfolding Within
places_within halves = within_seen [] halves (rw seen-none tt)

-- what more halves leave of the packets before

bits_same : (halves more : List ℕ) (outcomes : List (ℕ × Seen)) → Within (length halves) outcomes
    → flat_map (packet_bits_of (halves ++ more)) (filter_map packet_at outcomes)
    ≡ flat_map (packet_bits_of halves) (filter_map packet_at outcomes)
unfolding Within packet_bits_of
bits_same halves more [] within = refl
bits_same halves more ((place, Nothing) ∷ outcomes) within = bits_same halves more outcomes within.1
bits_same halves more ((place, Refused fault) ∷ outcomes) within = bits_same halves more outcomes within.1
bits_same halves more ((place, Packet bytes) ∷ outcomes) within =
    let same : take (place + 1) (halves ++ more) ≡ take (place + 1) halves =
    take-append-le (place + 1) halves more (omega (arith, within.0)) in
    ap (λ l. pairs (keep_last (packet_length (length bytes)) l)
    ++ flat_map (packet_bits_of (halves ++ more)) (filter_map packet_at outcomes)) same
    ∙ ap (λ l. pairs (keep_last (packet_length (length bytes)) (take (place + 1) halves)) ++ l)
    (bits_same halves more outcomes within.1)

ends_same : (halves more : List ℕ) (outcomes : List (ℕ × Seen)) → Within (length halves) outcomes
    → map (λ packet. sum (take packet.0 (halves ++ more))) (filter_map packet_at outcomes)
    ≡ map (λ packet. sum (take packet.0 halves)) (filter_map packet_at outcomes)
unfolding Within
ends_same halves more [] within = refl
ends_same halves more ((place, Nothing) ∷ outcomes) within = ends_same halves more outcomes within.1
ends_same halves more ((place, Refused fault) ∷ outcomes) within = ends_same halves more outcomes within.1
ends_same halves more ((place, Packet bytes) ∷ outcomes) within =
    let same : take (place + 1) (halves ++ more) ≡ take (place + 1) halves =
    take-append-le (place + 1) halves more (omega (arith, within.0)) in
    ap (λ l. sum l ∷ map (λ packet. sum (take packet.0 (halves ++ more))) (filter_map packet_at outcomes)) same
    ∙ ap (λ l. sum (take (place + 1) halves) ∷ l) (ends_same halves more outcomes within.1)

-- what these halves show, behind others
abbrev pub Shows : List ℕ → List ℕ → ℕ → Seen → Type 0
Shows halves more place shown = seen (halves ++ more) ≡ seen halves ++ report_at place shown

bits_more : (halves more : List ℕ) (place : ℕ) (shown : Seen) → Shows halves more place shown
    → packet_bits_in (halves ++ more)
    ≡ packet_bits_in halves ++ flat_map (packet_bits_of (halves ++ more)) (filter_map packet_at (report_at place shown))
unfolding packet_bits_in packets_in
bits_more halves more place shown shows =
    ap (λ l. flat_map (packet_bits_of (halves ++ more)) (filter_map packet_at l)) shows
    ∙ ap (flat_map (packet_bits_of (halves ++ more)))
    (filter_map-append packet_at (seen halves) (report_at place shown))
    ∙ flat_map-append (packet_bits_of (halves ++ more)) (filter_map packet_at (seen halves))
    (filter_map packet_at (report_at place shown))
    ∙ ap (λ l. l ++ flat_map (packet_bits_of (halves ++ more)) (filter_map packet_at (report_at place shown)))
    (bits_same halves more (seen halves) (places_within halves))

ends_more : (halves more : List ℕ) (place : ℕ) (shown : Seen) → Shows halves more place shown
    → ends_in (halves ++ more)
    ≡ ends_in halves
    ++ map (λ packet. sum (take packet.0 (halves ++ more))) (filter_map packet_at (report_at place shown))
unfolding ends_in packets_in
ends_more halves more place shown shows =
    let end : ℕ × List ℕ → ℕ = λ packet. sum (take packet.0 (halves ++ more)) in
    ap (λ l. map end (filter_map packet_at l)) shows
    ∙ ap (map end) (filter_map-append packet_at (seen halves) (report_at place shown))
    ∙ map-append end (filter_map packet_at (seen halves)) (filter_map packet_at (report_at place shown))
    ∙ ap (λ l. l ++ map end (filter_map packet_at (report_at place shown)))
    (ends_same halves more (seen halves) (places_within halves))

-- halves that show nothing

pub bits_quiet : (halves more : List ℕ) → seen (halves ++ more) ≡ seen halves
    → packet_bits_in (halves ++ more) ≡ packet_bits_in halves
unfolding report_at
bits_quiet halves more quiet =
    bits_more halves more 0 Nothing (quiet ∙ sym (append-nil (seen halves))) ∙ append-nil (packet_bits_in halves)

pub ends_quiet : (halves more : List ℕ) → seen (halves ++ more) ≡ seen halves
    → ends_in (halves ++ more) ≡ ends_in halves
unfolding report_at
ends_quiet halves more quiet =
    ends_more halves more 0 Nothing (quiet ∙ sym (append-nil (seen halves))) ∙ append-nil (ends_in halves)

bits_here : (halves front later : List ℕ) (place : ℕ) (shown : Seen) → halves ≡ front ++ later
    → length front ≡ place + 1
    → flat_map (packet_bits_of halves) (filter_map packet_at (report_at place shown))
    ≡ bits_among (bits_shown shown) front
unfolding packet_bits_of report_at
bits_here halves front later place Nothing whole last = refl
bits_here halves front later place (Refused fault) whole last = refl
bits_here halves front later place (Packet bytes) whole last =
    append-nil (pairs (keep_last (packet_length (length bytes)) (take (place + 1) halves)))
    ∙ ap (λ l. pairs (keep_last (packet_length (length bytes)) l))
    (ap (take (place + 1)) whole ∙ take_at front later (place + 1) last)

ends_here : (halves front later : List ℕ) (place : ℕ) (shown : Seen) → halves ≡ front ++ later
    → length front ≡ place + 1
    → map (λ packet. sum (take packet.0 halves)) (filter_map packet_at (report_at place shown))
    ≡ end_among (bits_shown shown) (sum front)
unfolding report_at
ends_here halves front later place Nothing whole last = refl
ends_here halves front later place (Refused fault) whole last = refl
ends_here halves front later place (Packet bytes) whole last =
    ap (λ l. sum l ∷ []) (ap (take (place + 1)) whole ∙ take_at front later (place + 1) last)

-- no halves

pub measures_none : (classes : Classes) (outcomes : Outcomes) (packets : Packets) (framer : Rest) (recent : List ℕ)
    → AreClasses classes [] → AreOutcomes outcomes [] → AreBits packets.bits [] → AreGaps packets.gaps []
    → StandsFor framer [] → recent ≡ [] → AreMeasured 0 0 classes outcomes packets framer recent []
unfolding packet_bits_in packets_in ends_in
measures_none classes outcomes packets framer recent by_class by_outcome bits gaps stands none = record {
  count = refl;
  time = refl;
  classes = by_class;
  outcomes = rw seen-none by_outcome;
  bits = rw seen-none bits;
  gaps = rw seen-none gaps;
  framer = stands;
  recent = none;
}

-- a run of halves

pub run_on : (halves : List ℕ) (us i n : ℕ) → i ≤ n
    → (halves ++ replicate i us) ++ replicate (n - i) us ≡ halves ++ replicate n us
run_on halves us i n within =
    let all : i + (n - i) ≡ n = omega (arith, within) in
    append_assoc halves (replicate i us) (replicate (n - i) us)
    ∙ ap (λ l. halves ++ l) (replicate-append-replicate i (n - i) us ∙ ap (λ k. replicate k us) all)

pub run_next : (halves : List ℕ) (us n : ℕ)
    → (halves ++ replicate n us) ++ us ∷ [] ≡ halves ++ replicate (n + 1) us
run_next halves us n =
    append_assoc halves (replicate n us) (us ∷ []) ∙ ap (λ l. halves ++ l) (replicate-append-replicate n 1 us)

pub sum_run : (halves : List ℕ) (n us : ℕ) → sum (halves ++ replicate n us) ≡ sum halves + n * us
sum_run halves n us =
    sum_by-append (λ x. x) halves (replicate n us) ∙ ap (λ k. sum halves + k) (sum_by-replicate (λ x. x) n us)

pub length_run : (halves : List ℕ) (n us : ℕ) → length (halves ++ replicate n us) ≡ length halves + n
length_run halves n us =
    length-append halves (replicate n us) ∙ ap (λ k. length halves + k) (length-replicate n us)

-- of a packet's bits only the last halves count
few_count : (shown : Option ℕ) (front : List ℕ) → IfSome shown (λ count. count ≤ 130)
    → bits_among shown (keep_last 130 front) ≡ bits_among shown front
few_count None front few = refl
few_count (Some count) front few = ap pairs (keep_last_keep count 130 front few)

module _ (halves : List ℕ) (us n at : ℕ) (shown : Seen) (some : 1 ≤ at) (within : at ≤ n)
    (shows : Shows halves (replicate n us) (length halves + at - 1) shown) where
  whole : halves ++ replicate n us ≡ (halves ++ replicate at us) ++ replicate (n - at) us
  whole = sym (run_on halves us at n within)

  last : length (halves ++ replicate at us) ≡ length halves + at - 1 + 1
  last = omega (arith, length_run halves at us, some)

  pub bits_run : (recent : List ℕ) → recent ≡ keep_last 130 (halves ++ replicate at us)
      → IfSome (bits_shown shown) (λ count. count ≤ 130)
      → packet_bits_in (halves ++ replicate n us) ≡ packet_bits_in halves ++ bits_among (bits_shown shown) recent
  bits_run recent is few =
      bits_more halves (replicate n us) (length halves + at - 1) shown shows
      ∙ ap (λ l. packet_bits_in halves ++ l)
      (bits_here (halves ++ replicate n us) (halves ++ replicate at us) (replicate (n - at) us) (length halves + at - 1)
      shown whole last
      ∙ sym (few_count (bits_shown shown) (halves ++ replicate at us) few)
      ∙ ap (bits_among (bits_shown shown)) (sym is))

  pub ends_run : (end : ℕ) → end ≡ sum halves + at * us
      → ends_in (halves ++ replicate n us) ≡ ends_in halves ++ end_among (bits_shown shown) end
  ends_run end is =
      ends_more halves (replicate n us) (length halves + at - 1) shown shows
      ∙ ap (λ l. ends_in halves ++ l)
      (ends_here (halves ++ replicate n us) (halves ++ replicate at us) (replicate (n - at) us) (length halves + at - 1)
      shown whole last
      ∙ ap (end_among (bits_shown shown)) (sum_run halves at us ∙ sym is))
