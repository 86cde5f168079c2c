-- The number of lost packets and the shortest preamble, after one more half-bit.
use Rattle.std.proofs.Common.{◌≡◌, ◌≢◌, ℕ, ◌+◌, ◌-◌, ◌*◌, ◌≤◌, min, List, [], ◌∷◌, ◌++◌, length, take, map}
use Rattle.std.proofs.Common.{fold, get_or, Option, None, Some, refl, sym, ap}
use Rattle.std.proofs.Common.{◌∙◌, arith, subst, append-nil, append_assoc, length-append, if◌then◌else◌}
use Rattle.std.specs.List.{filter_map}
use Rattle.std.specs.Option.{is_some, option_map}
use Rattle.std.proofs.Math.Nat.{min_comm}
use Rattle.std.proofs.lemmas.List.{map-append, take-append-le}
use Rattle.std.proofs.lemmas.List.Elements.{filter_map-append}
use Rattle.std.proofs.lemmas.List.Sums.{fold-append}
use Rattle.dcc_wire.specs.declared.seen.Seen.{Seen}
use Rattle.dcc_wire.specs.declared.seen.Seen.TheVariants.{Nothing, Packet, Refused}
use Rattle.dcc_wire.specs.Framing.{seen, rest, report_at}
use Rattle.dcc_wire.specs.Half.{class_of}
use Rattle.dcc_wire.specs.Inner.Steps.{answer_to}
use Rattle.dcc_wire.proofs.FramingLemmas.{seen-push}
use Rattle.dcc_wire.proofs.SeenLemmas.{seen-none}
use Rattle.dcc_timing.specs.Inner.Steps.{lesser}
use Rattle.dcc_timing.specs.Numbers.{keep_last, least}
use Rattle.dcc_timing.specs.PacketBits.{packet_at, packets_in}
use Rattle.dcc_timing.proofs.RecentLemmas.{keep_last_behind, keep_last_keep}
use Rattle.dcc_lost.specs.declared.causes.LostPacket.{LostPacket}
use Rattle.dcc_lost.specs.Causes.{packet_lost, packets_lost, packets_lost_after, report_lost, with_causes}
use Rattle.dcc_wire.specs.Framing.{ones_at_end, ones_before, starts_below, used_up}
use Rattle.dcc_timing.specs.declared.timings.Timings.{Timings}
use Rattle.dcc_timing.specs.Measures.{Measures}
use Rattle.dcc_lost.specs.declared.figures.Ended.{Ended}
use Rattle.dcc_lost.specs.Figures.{AreLostFigures, AreTrackFigures, ended_preamble, preambles_from}
use Rattle.dcc_lost.specs.Inner.{frame_ended, lesser_of}
use Rattle.dcc_lost.specs.Lost.{frame_lost}
use Rattle.dcc_lost.specs.Preambles.{lost_packet_at, packets_seen_or_lost, preamble_at_end, preamble_of}
use Rattle.dcc_lost.specs.Preambles.{all_unused_at_end, lost_count, nearest_ones_at_end, shortest_preamble}
use Rattle.dcc_lost.proofs.LostLemmas.{heard}
use Rattle.dcc_lost.proofs.PreambleLemmas.{preamble_before, preambles_from-push}
use Rattle.dcc_lost.proofs.RunLemmas.{packets_lost-push}

-- the least number of a list with one number more

least_start : (a b : ℕ) (numbers : List ℕ) → fold min (min a b) numbers ≡ min a (fold min b numbers)
least_start a b [] = refl
least_start a b (number ∷ numbers) =
    let swap : min (min a b) number ≡ min a (min b number) = omega arith in
    ap (λ n. fold min n numbers) swap ∙ least_start a (min b number) numbers

least_between : (front : List ℕ) (number : ℕ) (numbers : List ℕ)
    → least ((front ++ number ∷ []) ++ numbers) ≡ Some (lesser (least (front ++ numbers)) number)
unfolding least
least_between [] number [] = refl
least_between [] number (first ∷ numbers) =
    ap Some (least_start number first numbers ∙ min_comm number (fold min first numbers))
least_between (first ∷ front) number numbers =
    ap Some (fold-append min first (front ++ number ∷ []) numbers
    ∙ ap (λ n. fold min n numbers) (fold-append min first front (number ∷ []) ∙ min_comm (fold min first front) number)
    ∙ least_start number (fold min first front) numbers
    ∙ min_comm number (fold min (fold min first front) numbers)
    ∙ ap (λ n. min n number) (sym (fold-append min first front numbers)))

least_behind : (front : List ℕ) (number : ℕ) → least (front ++ number ∷ []) ≡ Some (lesser (least front) number)
least_behind front number =
    ap least (sym (append-nil (front ++ number ∷ []))) ∙ least_between front number []
    ∙ ap (λ l. Some (lesser (least l) number)) (append-nil front)

-- each packet ends within the list

unfoldable Ends : ℕ → List (ℕ × List ℕ) → Type 0
Ends n [] = Unit {0}
Ends n (packet ∷ packets) = (packet.0 ≤ n) × Ends n packets

ends_more : (m n : ℕ) (packets : List (ℕ × List ℕ)) → m ≤ n → Ends m packets → Ends n packets
unfolding Ends
ends_more m n [] longer ends = tt
ends_more m n (packet ∷ packets) longer ends = (omega (arith, longer, ends.0), ends_more m n packets longer ends.1)

ends_append : (n : ℕ) (packets more : List (ℕ × List ℕ)) → Ends n packets → Ends n more → Ends n (packets ++ more)
unfolding Ends
ends_append n [] more ends here = here
ends_append n (packet ∷ packets) more ends here = (ends.0, ends_append n packets more ends.1 here)

-- a packet that is seen at a place
abbrev pub seen_there : ℕ → Seen → List (ℕ × List ℕ)
seen_there place answer = filter_map packet_at (report_at place answer)

ends_there : (n place : ℕ) (answer : Seen) → place + 1 ≤ n → Ends n (seen_there place answer)
unfolding Ends report_at
ends_there n place Nothing within = tt
ends_there n place (Packet bytes) within = (within, tt)
ends_there n place (Refused fault) within = tt

packets_in-push : (durations : List ℕ) (us : ℕ) (answer : Seen)
    → seen (durations ++ us ∷ []) ≡ seen durations ++ report_at (length durations) answer
    → packets_in (durations ++ us ∷ []) ≡ packets_in durations ++ seen_there (length durations) answer
unfolding packets_in
packets_in-push durations us answer sees =
    ap (filter_map packet_at) sees
    ∙ filter_map-append packet_at (seen durations) (report_at (length durations) answer)

ends_seen : (durations more : List ℕ) → Ends (length durations) (packets_in durations)
    → Ends (length (durations ++ more)) (packets_in (durations ++ more))
ends_seen durations [] ends = rw (append-nil durations) ends
ends_seen durations (us ∷ more) ends =
    let longer : length (durations ++ us ∷ []) ≡ length durations + 1 = length-append durations (us ∷ []) in
    let answer : Seen = answer_to (rest durations) (class_of us) in
    let here : Ends (length (durations ++ us ∷ [])) (packets_in durations ++ seen_there (length durations) answer) =
    ends_append (length (durations ++ us ∷ [])) (packets_in durations) (seen_there (length durations) answer)
    (ends_more (length durations) (length (durations ++ us ∷ [])) (packets_in durations) (omega (arith, longer)) ends)
    (ends_there (length (durations ++ us ∷ [])) (length durations) answer (omega (arith, longer))) in
    subst (λ l. Ends (length l) (packets_in l)) (append_assoc durations (us ∷ []) more)
    (ends_seen (durations ++ us ∷ []) more
    (subst (λ l. Ends (length (durations ++ us ∷ [])) l)
    (sym (packets_in-push durations us answer (seen-push durations us))) here))

seen_ends : (durations : List ℕ) → Ends (length durations) (packets_in durations)
unfolding Ends packets_in
seen_ends durations = ends_seen [] durations (rw seen-none tt)

-- a packet that is lost at a place
abbrev pub lost_there : ℕ → Option LostPacket → List (ℕ × List ℕ)
lost_there place lost = map lost_packet_at (report_lost place lost)

ends_at : (n place : ℕ) (lost : Option LostPacket) → place + 1 ≤ n → Ends n (lost_there place lost)
unfolding Ends report_lost
ends_at n place None within = tt
ends_at n place (Some packet) within = (within, tt)

ends_lost : (before durations : List ℕ)
    → Ends (length before + length durations) (map lost_packet_at (packets_lost_after before durations))
unfolding Ends packets_lost_after
ends_lost before [] = tt
ends_lost before (us ∷ durations) =
    let n : ℕ = length before + length (us ∷ durations) in
    let longer : length (before ++ us ∷ []) + length durations ≡ n =
    omega (arith, length-append before (us ∷ [])) in
    rw (map-append lost_packet_at (report_lost (length before) (packet_lost before us)) _)
    (ends_append n (lost_there (length before) (packet_lost before us)) _
    (ends_at n (length before) (packet_lost before us) (omega arith))
    (subst (λ k. Ends k (map lost_packet_at (packets_lost_after (before ++ us ∷ []) durations))) longer
    (ends_lost (before ++ us ∷ []) durations)))

lost_ends : (durations : List ℕ) → Ends (length durations) (map lost_packet_at (packets_lost durations))
unfolding packets_lost
lost_ends durations = subst (λ n. Ends n (map lost_packet_at (packets_lost durations))) (omega arith)
    (ends_lost [] durations)

-- the preambles of these packets stay

preambles_stay : (durations more : List ℕ) (packets : List (ℕ × List ℕ)) → Ends (length durations) packets
    → map (preamble_of (durations ++ more)) packets ≡ map (preamble_of durations) packets
unfolding Ends
preambles_stay durations more [] ends = refl
preambles_stay durations more (packet ∷ packets) ends =
    let same : take (packet.0 - (18 * length packet.1 + 2)) (durations ++ more)
    ≡ take (packet.0 - (18 * length packet.1 + 2)) durations
    = take-append-le (packet.0 - (18 * length packet.1 + 2)) durations more (omega (arith, ends.0)) in
    ap (λ l. preamble_at_end l ∷ map (preamble_of (durations ++ more)) packets) same
    ∙ ap (λ l. preamble_of durations packet ∷ l) (preambles_stay durations more packets ends.1)

-- the figures of the empty list

shortest_none : shortest_preamble [] ≡ None
unfolding shortest_preamble packets_seen_or_lost packets_in packets_lost packets_lost_after least
shortest_none = rw seen-none refl

all_unused_none : all_unused_at_end [] ≡ 0
unfolding all_unused_at_end used_up starts_below
all_unused_none = refl

ones_none : nearest_ones_at_end [] ≡ 0
unfolding ones_at_end ones_before
ones_none = refl

lost_none : lost_count [] ≡ 0
unfolding packets_lost packets_lost_after
lost_none = refl

pub none_measured : (timings : Timings) (ended : Ended) (last : List ℕ) → Measures timings [] → ended.lost ≡ 0
    → ended_preamble ended ≡ None → last ≡ [] → AreTrackFigures timings ended 0 0 last []
unfolding preambles_from
none_measured timings ended last measures lost shortest none = record {
  measured = measures;
  lost = record {
    ones_are = rw ones_none refl;
    unused_are = rw all_unused_none refl;
    preambles = none;
    count = lost ∙ omega (arith, lost_none);
    few = omega (arith, lost_none);
    least = shortest ∙ sym shortest_none;
  };
}

-- one more half-bit

module _ (durations : List ℕ) (us : ℕ) where
  abbrev longer : List ℕ
  longer = durations ++ us ∷ []

  stays : least (map (preamble_of longer) (packets_seen_or_lost durations)) ≡ shortest_preamble durations
  unfolding shortest_preamble packets_seen_or_lost
  stays =
      ap least (preambles_stay durations (us ∷ []) (packets_seen_or_lost durations)
      (ends_append (length durations) (packets_in durations) (map lost_packet_at (packets_lost durations))
      (seen_ends durations) (lost_ends durations)))

  packets_more : (answer : Seen) (lost : Option LostPacket)
      → seen longer ≡ seen durations ++ report_at (length durations) answer → lost ≡ packet_lost durations us
      → packets_seen_or_lost longer
      ≡ (packets_in durations ++ seen_there (length durations) answer)
      ++ (map lost_packet_at (packets_lost durations) ++ lost_there (length durations) lost)
  unfolding packets_seen_or_lost
  packets_more answer lost sees is =
      ap (λ l. l ++ map lost_packet_at (packets_lost longer)) (packets_in-push durations us answer sees)
      ∙ ap (λ l. (packets_in durations ++ seen_there (length durations) answer) ++ l)
      (ap (map lost_packet_at) (packets_lost-push durations us lost is)
      ∙ map-append lost_packet_at (packets_lost durations) (report_lost (length durations) lost))

  -- the least preamble of these packets
  module _ (measure : ℕ × List ℕ → ℕ) (one other : List (ℕ × List ℕ)) where
    least_none : least (map measure ((one ++ []) ++ (other ++ []))) ≡ least (map measure (one ++ other))
    least_none = rw (append-nil one, append-nil other) refl

    least_seen : (packet : ℕ × List ℕ)
        → least (map measure ((one ++ packet ∷ []) ++ (other ++ [])))
        ≡ Some (lesser (least (map measure (one ++ other))) (measure packet))
    least_seen packet =
        ap (λ l. least (map measure ((one ++ packet ∷ []) ++ l))) (append-nil other)
        ∙ ap least (map-append measure (one ++ packet ∷ []) other
        ∙ ap (λ l. l ++ map measure other) (map-append measure one (packet ∷ [])))
        ∙ least_between (map measure one) (measure packet) (map measure other)
        ∙ ap (λ l. Some (lesser (least l) (measure packet))) (sym (map-append measure one other))

    least_lost : (packet : ℕ × List ℕ)
        → least (map measure ((one ++ []) ++ (other ++ packet ∷ [])))
        ≡ Some (lesser (least (map measure (one ++ other))) (measure packet))
    least_lost packet =
        ap (λ l. least (map measure (l ++ (other ++ packet ∷ [])))) (append-nil one)
        ∙ ap (λ l. least (map measure l)) (sym (append_assoc one other (packet ∷ [])))
        ∙ ap least (map-append measure (one ++ other) (packet ∷ []))
        ∙ least_behind (map measure (one ++ other)) (measure packet)

  all_packets : (answer : Seen) (frame : Option (List ℕ)) → (answer ≢ Nothing → frame ≡ None)
      → least (map (preamble_of longer) ((packets_in durations ++ seen_there (length durations) answer)
      ++ (map lost_packet_at (packets_lost durations)
      ++ lost_there (length durations) (option_map (with_causes longer) frame))))
      ≡ lesser_of
      (least (map (preamble_of longer) (packets_in durations ++ map lost_packet_at (packets_lost durations))))
      (option_map (λ bytes. preamble_of longer (length durations + 1, bytes)) (frame_ended answer frame))
  unfolding report_at report_lost with_causes
  all_packets Nothing None unheard =
      least_none (preamble_of longer) (packets_in durations) (map lost_packet_at (packets_lost durations))
  all_packets Nothing (Some bytes) unheard =
      least_lost (preamble_of longer) (packets_in durations) (map lost_packet_at (packets_lost durations))
      (length durations + 1, bytes)
  all_packets (Refused fault) None unheard =
      least_none (preamble_of longer) (packets_in durations) (map lost_packet_at (packets_lost durations))
  all_packets (Refused fault) (Some bytes) unheard =
      least_lost (preamble_of longer) (packets_in durations) (map lost_packet_at (packets_lost durations))
      (length durations + 1, bytes)
  all_packets (Packet bytes) None unheard =
      least_seen (preamble_of longer) (packets_in durations) (map lost_packet_at (packets_lost durations))
      (length durations + 1, bytes)
  all_packets (Packet bytes) (Some other) unheard =
      absurd (let none = unheard (λ e. cc) in cc)

  lost_is : (frame : Option (List ℕ)) → frame ≡ frame_lost durations us
      → option_map (with_causes longer) frame ≡ packet_lost durations us
  unfolding packet_lost
  lost_is frame is = ap (option_map (with_causes longer)) is

  shortest_more : (answer : Seen) (frame : Option (List ℕ))
      → seen longer ≡ seen durations ++ report_at (length durations) answer → frame ≡ frame_lost durations us
      → shortest_preamble longer
      ≡ lesser_of (shortest_preamble durations)
      (option_map (λ bytes. preamble_of longer (length longer, bytes)) (frame_ended answer frame))
  unfolding shortest_preamble packets_seen_or_lost
  shortest_more answer frame sees is =
      let end : length longer ≡ length durations + 1 = length-append durations (us ∷ []) in
      let ended : ℕ → Option ℕ =
      λ n. option_map (λ bytes. preamble_of longer (n, bytes)) (frame_ended answer frame) in
      ap (λ l. least (map (preamble_of longer) l))
      (packets_more answer (option_map (with_causes longer) frame) sees (lost_is frame is))
      ∙ all_packets answer frame (λ something. is ∙ sym (heard durations us answer sees something))
      ∙ ap (λ l. lesser_of l (ended (length durations + 1))) stays
      ∙ ap (λ n. lesser_of (shortest_preamble durations) (ended n)) (sym end)

  reported : (frame : Option (List ℕ))
      → length (report_lost (length durations) (option_map (with_causes longer) frame))
      ≡ (if is_some frame then 1 else 0)
  unfolding report_lost
  reported None = refl
  reported (Some bytes) = refl

  count_more : (frame : Option (List ℕ)) (more : ℕ) → frame ≡ frame_lost durations us
      → more ≡ (if is_some frame then 1 else 0) → lost_count longer ≡ lost_count durations + more
  count_more frame more is one =
      let all : lost_count longer
      ≡ lost_count durations + length (report_lost (length durations) (option_map (with_causes longer) frame)) =
      ap length (packets_lost-push durations us (option_map (with_causes longer) frame) (lost_is frame is))
      ∙ length-append (packets_lost durations) _ in
      omega (arith, all, one, reported frame)

  pub figures_more : (ended next : Ended) (ones unused : ℕ) (last : List ℕ) (answer : Seen) (frame : Option (List ℕ))
      (before ones' unused' : ℕ) (last' : List ℕ)
      → AreLostFigures ended ones unused last durations
      → before ≡ min ones unused → last' ≡ keep_last 130 (last ++ before ∷ [])
      → seen longer ≡ seen durations ++ report_at (length durations) answer
      → frame ≡ frame_lost durations us → ones' ≡ min 65535 (nearest_ones_at_end longer)
      → unused' ≡ min 65535 (all_unused_at_end longer)
      → next.lost ≡ min 4294967295 (ended.lost + (if is_some frame then 1 else 0))
      → (last' ≡ keep_last 130 (preambles_from [] longer)
      → ended_preamble next
      ≡ lesser_of (ended_preamble ended)
      (option_map (λ bytes. preamble_of longer (length longer, bytes)) (frame_ended answer frame)))
      → AreLostFigures next ones' unused' last' longer
  unfolding preamble_at_end
  figures_more ended next ones unused last answer frame before ones' unused' last' are befores lasts sees is ones_are
      unused_are counts leasts =
      let more : ℕ = if is_some frame then 1 else 0 in
      let all = count_more frame more is refl in
      let preamble : before ≡ preamble_at_end durations = omega (arith, befores, are.ones_are, are.unused_are) in
      let recent : last' ≡ keep_last 130 (preambles_from [] longer) =
      lasts ∙ ap (λ l. keep_last 130 (l ++ before ∷ [])) are.preambles
      ∙ keep_last_behind 130 (preambles_from [] durations) (before ∷ [])
      ∙ ap (λ n. keep_last 130 (preambles_from [] durations ++ n ∷ [])) preamble
      ∙ ap (keep_last 130) (sym (preambles_from-push [] durations us)) in
      record {
        ones_are = ones_are;
        unused_are = unused_are;
        preambles = recent;
        count = omega (arith, counts, are.count, all);
        few = omega (arith, are.few, one_at_most frame more refl, all, length-append durations (us ∷ []));
        least = leasts recent ∙ ap (λ l. lesser_of l (ended_of longer)) are.least
            ∙ sym (shortest_more answer frame sees is);
      }
    where
      one_at_most : (frame : Option (List ℕ)) (more : ℕ) → more ≡ (if is_some frame then 1 else 0) → more ≤ 1
      one_at_most None more e = omega (arith, e)
      one_at_most (Some bytes) more e = omega (arith, e)

      ended_of : List ℕ → Option ℕ
      ended_of all = option_map (λ bytes. preamble_of all (length all, bytes)) (frame_ended answer frame)

  -- a half-bit at which no packet ends
  pub figures_quiet : (ended : Ended) (ones unused : ℕ) (last : List ℕ) (before ones' unused' : ℕ) (last' : List ℕ)
      → AreLostFigures ended ones unused last durations
      → before ≡ min ones unused → last' ≡ keep_last 130 (last ++ before ∷ [])
      → seen longer ≡ seen durations → frame_lost durations us ≡ None
      → ones' ≡ min 65535 (nearest_ones_at_end longer) → unused' ≡ min 65535 (all_unused_at_end longer)
      → AreLostFigures ended ones' unused' last' longer
  unfolding report_at
  figures_quiet ended ones unused last before ones' unused' last' are befores lasts same none ones_are unused_are =
      figures_more ended ended ones unused last Nothing None before ones' unused' last' are befores lasts
      (same ∙ sym (append-nil (seen durations))) (sym none) ones_are unused_are (omega (arith, are.count))
      (λ recent. refl)

-- the preamble of a packet at the end

pub preamble_found : (durations last window bytes frame : List ℕ) (option : Option (List ℕ)) (number : ℕ)
    → last ≡ keep_last 130 (preambles_from [] durations) → length bytes ≤ 6 → bytes ≡ frame
    → window ≡ keep_last (18 * length bytes + 2) last → number ≡ get_or window 0 0 → option ≡ Some frame
    → Some number ≡ option_map (λ bytes. preamble_of durations (length durations, bytes)) option
preamble_found durations last window bytes frame option number is few same windows numbers some =
    let body : ℕ = 18 * length bytes + 2 in
    let found : number ≡ preamble_at_end (take (length durations - body) durations) =
    numbers ∙ ap (λ l. get_or l 0 0) windows ∙ ap (λ l. get_or (keep_last body l) 0 0) is
    ∙ ap (λ l. get_or l 0 0) (keep_last_keep body 130 (preambles_from [] durations) (omega (arith, few)))
    ∙ preamble_before durations body (omega arith) in
    rw some (ap Some (found ∙ ap (λ l. preamble_of durations (length durations, l)) same))
