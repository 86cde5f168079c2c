-- Each found packet has a cause.
use Rattle.std.proofs.Common.{◌≡◌, ◌≢◌, ℕ, ◌+◌, ◌-◌, ◌*◌, ◌<◌, ◌≤◌, min, Bool, true, false, ◌&&◌, List, [], ◌∷◌}
use Rattle.std.proofs.Common.{◌++◌}
use Rattle.std.proofs.Common.{length, take, drop, map, sum, replicate, reverse, Option, Some, None, All}
use Rattle.std.proofs.Common.{refl, sym, ap, ◌∙◌, subst, arith, inl, inr, ◌⊎◌, append_assoc, append-nil, length-append}
use Rattle.std.proofs.Common.{length-drop, length-take, nat_lt}
use Rattle.std.specs.List.{count_by, filter}
use Rattle.std.proofs.lemmas.List.{drop-map, take-append-drop, map-append, length-map, drop-drop, drop-append-le}
use Rattle.std.proofs.lemmas.List.{take-append-le}
use Rattle.std.proofs.lemmas.List.{length-reverse, same_from_push}
use Rattle.std.proofs.lemmas.List.Concat.{flat_map-append}
use Rattle.std.proofs.lemmas.List.Elements.{All-drop, All-head, All-tail, All-weaker}
use Rattle.std.proofs.Math.Seq.{drop-append_seam, take-append_seam}
use Rattle.dcc_wire.specs.declared.half.Half.{Half}
use Rattle.dcc_wire.specs.declared.half.Half.TheVariants.{One}
use Rattle.dcc_wire.specs.declared.seen.Seen.{Seen}
use Rattle.dcc_wire.specs.declared.seen.Seen.TheVariants.{Nothing, Packet, Refused}
use Rattle.dcc_wire.specs.Bodies.{body}
use Rattle.dcc_wire.specs.Framing.{ones_at_end, report_at, rest, seen}
use Rattle.dcc_wire.specs.Half.{class_of}
use Rattle.dcc_wire.specs.Inner.Steps.{answer_to}
use Rattle.dcc_wire.proofs.ByteBits.{cases_Option}
use Rattle.dcc_wire.proofs.FramingLemmas.{seen-push}
use Rattle.dcc_timing.specs.Numbers.{keep_last}
use Rattle.dcc_timing.specs.Outcomes.{is_packet}
use Rattle.dcc_lost.specs.declared.joined.SpikedPacket.{SpikedPacket}
use Rattle.dcc_lost.specs.Nearest.{nearest_class}
use Rattle.dcc_lost.specs.Causes.{is_off_one, is_off_zero, off_limits, ones_before_body, short_preamble, with_causes}
use Rattle.dcc_lost.specs.Joined.{Joining, halves_of_all, joined, joined_us, joining_of, spikes_in}
use Rattle.dcc_lost.specs.JoinedLost.{causes_of, halves_before, is_past, packet_found}
use Rattle.dcc_lost.specs.JoinedLost.{packets_heard}
use Rattle.dcc_lost.specs.JoinedLost.{with_spikes}
use Rattle.dcc_lost.specs.JoinedLaws.{FoundPacketsHaveCauses, FoundWithoutSpikesIsLost}
use Rattle.dcc_lost.specs.LostLaws.{EndsWithFrame, HasCause}
use Rattle.dcc_lost.specs.Unused.{last_outcome, since_refusal, unused_at_end}
use Rattle.dcc_lost.proofs.CauseLaw.{no_cause, ones_before-few, short_none}
use Rattle.dcc_lost.proofs.FinderLemmas.{before_body}
use Rattle.dcc_lost.proofs.FoundLemmas.{some_of_nothing}
use Rattle.dcc_lost.proofs.HeardLemmas.{last_outcome-push}
use Rattle.dcc_lost.proofs.JoinedLemmas.{all_halves, all_kept, count_by-append, heard_grows, packets_reported}
use Rattle.dcc_lost.proofs.LawLemmas.{hunting-open, length-body, longest-is}
use Rattle.dcc_lost.proofs.SingleLemmas.{IsSingle, joined_singles, long_is, newest_ends, single, singles_law}
use Rattle.dcc_lost.proofs.SingleLemmas.{spikes_none}
use Rattle.dcc_lost.specs.Lost.{longest_frame_at_end}
use Rattle.dcc_lost.proofs.UnusedBodyLaw.{IsFound, between_hunts, heard_before, packet-is}

-- no outcome ends with the last half-bit of a found packet

-- the half-bits before the last joined half-bits are a front of the list without its last half-bit
front_of : (limit : ℕ) (durations : List ℕ) (us n : ℕ) → 0 < n
    → (back : List ℕ) × (halves_before n (joined limit (durations ++ us ∷ [])) ++ back ≡ durations)
unfolding joined
front_of limit durations us n some =
    let now : Joining = joining_of limit (durations ++ us ∷ []) in
    let groups : List (List ℕ) = now.closed ++ now.newest ∷ [] in
    let k : ℕ = length groups - n in
    let few : k ≤ length now.closed = omega (arith, some, length-append now.closed (now.newest ∷ [])) in
    let front : take k groups ≡ take k now.closed = take-append-le k now.closed (now.newest ∷ []) few in
    let ends = newest_ends limit durations us in
    let back : List ℕ = halves_of_all (drop k now.closed) ++ ends.0 in
    let closed : halves_of_all (take k now.closed) ++ halves_of_all (drop k now.closed) ≡ halves_of_all now.closed =
    sym (flat_map-append (λ group. group) (take k now.closed) (drop k now.closed))
    ∙ ap halves_of_all (take-append-drop k now.closed) in
    let whole : (halves_of_all (take k groups) ++ back) ++ us ∷ [] ≡ durations ++ us ∷ [] =
    ap (λ l. (halves_of_all l ++ back) ++ us ∷ []) front
    ∙ ap (λ l. l ++ us ∷ [])
    (sym (append_assoc (halves_of_all (take k now.closed)) (halves_of_all (drop k now.closed)) ends.0)
    ∙ ap (λ l. l ++ ends.0) closed)
    ∙ append_assoc (halves_of_all now.closed) ends.0 (us ∷ [])
    ∙ ap (λ l. halves_of_all now.closed ++ l) (sym ends.1)
    ∙ sym (all_halves now.closed now.newest) ∙ all_kept limit (durations ++ us ∷ []) in
    (back, (same_from_push _ _ us us whole).0)

ends_refused : (durations : List ℕ) (count : ℕ) (answer : Seen) → answer ≢ Nothing
    → is_packet (0, answer) ≡ false
    → since_refusal (count + 1) (last_outcome (seen durations ++ report_at count answer)) ≡ Some 0
unfolding report_at since_refusal
ends_refused durations count Nothing some other = absurd (some refl)
ends_refused durations count (Packet bytes) some other = absurd cc
ends_refused durations count (Refused fault) some other =
    ap (since_refusal (count + 1)) (last_outcome-push (seen durations) (count, Refused fault)) ∙ ap Some (omega arith)

past_is : (hunts : Bool) (since : Option ℕ) → (hunts && is_past since) ≡ true → since ≢ Some 0
past_is hunts None between e = cc
past_is true (Some since) between e = cc
past_is false (Some since) between e = cc

nothing_reported : (outcomes : List (ℕ × Seen)) (place : ℕ) → outcomes ++ report_at place Nothing ≡ outcomes
unfolding report_at
nothing_reported outcomes place = append-nil outcomes

pub unseen_end : (limit : ℕ) (durations : List ℕ) (us : ℕ) (frame : List ℕ)
    → IsFound limit (durations ++ us ∷ []) frame → seen (durations ++ us ∷ []) ≡ seen durations
unseen_end limit durations us frame is = go (answer_to (rest durations) (class_of us)) (seen-push durations us)
  where
    count : length (durations ++ us ∷ []) ≡ length durations + 1
    count = length-append durations (us ∷ [])

    go : (answer : Seen) → seen (durations ++ us ∷ []) ≡ seen durations ++ report_at (length durations) answer
        → seen (durations ++ us ∷ []) ≡ seen durations
    go Nothing sees = sees ∙ nothing_reported (seen durations) (length durations)
    go (Refused fault) sees =
        let since : since_refusal (length (durations ++ us ∷ [])) (last_outcome (seen (durations
        ++ us ∷ []))) ≡ Some 0 =
        ap (λ n. since_refusal n (last_outcome (seen (durations ++ us ∷ [])))) count
        ∙ ap (λ l. since_refusal (length durations + 1) (last_outcome l)) sees
        ∙ ends_refused durations (length durations) (Refused fault) (λ e. cc) refl in
        absurd (past_is _ _ is.between since)
    go (Packet bytes) sees =
        let n : ℕ = 18 * length frame + 2 in
        let front = front_of limit durations us n (omega arith) in
        let whole = heard_before (joined limit (durations ++ us ∷ [])) n is.free in
        let kept = ap packets_heard (all_kept limit (durations ++ us ∷ [])) in
        let grows = heard_grows (halves_before n (joined limit (durations ++ us ∷ []))) front.0 in
        let same = ap packets_heard front.1 in
        let more = ap (count_by is_packet) sees
        ∙ count_by-append is_packet (seen durations) (report_at (length durations) (Packet bytes))
        ∙ ap (λ m. count_by is_packet (seen durations) + m) (packets_reported (length durations) (Packet bytes)) in
        absurd (omega (arith, whole, kept, grows, same, more))

-- the last half-bits of a list, if they are joined half-bits of their own

capped_same : (durations : List ℕ) → All (λ half. half ≤ 65535) durations → map joined_us (map single durations)
    ≡ durations
capped_same [] small = refl
capped_same (us ∷ durations) small =
    let here : joined_us (us ∷ []) ≡ us = omega (arith, All-head (λ half. half ≤ 65535) us durations small) in
    ap (λ n. n ∷ map joined_us (map single durations)) here
    ∙ ap (λ l. us ∷ l) (capped_same durations (All-tail (λ half. half ≤ 65535) us durations small))

halves_single : (durations : List ℕ) → halves_of_all (map single durations) ≡ durations
halves_single [] = refl
halves_single (us ∷ durations) = ap (λ l. us ∷ l) (halves_single durations)

ones_bounds : (n : ℕ) (durations : List ℕ)
    → (ones_before_body n durations ≤ 20) × (ones_before_body n durations ≤ length durations - n)
unfolding ones_before_body ones_at_end
ones_bounds n durations =
    let front : List ℕ = take (length durations - n) durations in
    let last : List ℕ = keep_last 20 front in
    let few = ones_before-few (reverse (map nearest_class last)) in
    let count = length-drop (length front - 20) front in (
      omega (arith, few, count, length-reverse (map nearest_class last), length-map last nearest_class),
      omega (
        arith,
        few,
        count,
        length-reverse (map nearest_class last),
        length-map last nearest_class,
        length-take (length durations - n) durations,
      ),
    )

enough_none : (ones unused : ℕ) (since : Option ℕ) → 20 ≤ min ones unused → short_preamble ones unused since ≡ None
unfolding short_preamble
enough_none ones unused since many =
    let other : nat_lt (min ones unused) 20 ≡ false = long_is 20 (min ones unused) many in rw other refl

record Tail (limit n : ℕ) (durations : List ℕ) : Type 0 where
  front : List ℕ
  last : List ℕ
  whole : front ++ last ≡ durations
  count : length last ≡ n + 20
  joined_last : keep_last (n + 20) (map joined_us (joined limit durations)) ≡ last
  last_of_all : keep_last (n + 20) durations ≡ last
  before : take (length durations - n) durations ≡ halves_before n (joined limit durations)

tail_of : (limit n : ℕ) (durations : List ℕ) (us : ℕ) → All (λ half. half ≤ 65535) (durations ++ us ∷ [])
    → n + 20 ≤ length (joined limit (durations ++ us ∷ []))
    → sum (keep_last (n + 20) (map (spikes_in limit) (joined limit (durations ++ us ∷ [])))) ≡ 0
    → Tail limit n (durations ++ us ∷ [])
tail_of limit n durations us small many none =
    let all : List ℕ = durations ++ us ∷ [] in
    let groups : List (List ℕ) = joined limit all in
    let m : ℕ = n + 20 in
    let k : ℕ = length groups - m in
    let j : ℕ = length groups - n in
    let tail : List (List ℕ) = drop k groups in
    let last : List ℕ = halves_of_all tail in
    let front : List ℕ = halves_of_all (take k groups) in
    let spikes : keep_last m (map (spikes_in limit) groups) ≡ map (spikes_in limit) tail =
    ap (λ i. drop (i - m) (map (spikes_in limit) groups)) (length-map groups (spikes_in limit))
    ∙ drop-map (spikes_in limit) k groups in
    let tail_is : tail ≡ map single last =
    spikes_none limit tail (sym (ap sum spikes) ∙ none)
    (All-drop (IsSingle limit) k groups (joined_singles limit durations us)) in
    let whole : front ++ last ≡ all =
    sym (flat_map-append (λ group. group) (take k groups) tail) ∙ ap halves_of_all (take-append-drop k groups)
    ∙ all_kept limit all in
    let count : length last ≡ m =
    omega (arith, many, ap length tail_is, length-map last single, length-drop k groups) in
    let sizes : length all ≡ length front + m = omega (arith, count, ap length whole, length-append front last) in
    let at_front : drop (length front) all ≡ last =
    ap (drop (length front)) (sym whole) ∙ drop-append_seam front last in
    let all_small : All (λ half. half ≤ 65535) last =
    subst (All (λ half. half ≤ 65535)) at_front (All-drop (λ half. half ≤ 65535) (length front) all small) in
    let later : drop j groups ≡ map single (drop 20 last) =
    ap (λ i. drop i groups) (omega (arith, many)) ∙ sym (drop-drop 20 k groups) ∙ ap (drop 20) tail_is
    ∙ drop-map single 20 last in
    let before : List ℕ = halves_of_all (take j groups) in
    let split : before ++ drop 20 last ≡ all =
    ap (λ l. before ++ l) (sym (halves_single (drop 20 last)) ∙ ap halves_of_all (sym later))
    ∙ sym (flat_map-append (λ group. group) (take j groups) (drop j groups))
    ∙ ap halves_of_all (take-append-drop j groups) ∙ all_kept limit all in
    let place : length all - n ≡ length before =
    omega (arith, count, ap length split, length-append before (drop 20 last), length-drop 20 last) in
    record {
      front = front;
      last = last;
      whole = whole;
      count = count;
      joined_last =
          ap (λ i. drop (i - m) (map joined_us groups)) (length-map groups joined_us) ∙ drop-map joined_us k groups
          ∙ ap (map joined_us) tail_is ∙ capped_same last all_small;
      last_of_all = ap (λ i. drop i all) (omega (arith, sizes)) ∙ at_front;
      before = ap (λ i. take i all) place ∙ ap (take (length before)) (sym split)
          ∙ take-append_seam before (drop 20 last);
    }

-- the same end in nearest classes
ends_too : (limit : ℕ) (durations frame : List ℕ) → Tail limit (18 * length frame + 2) durations
    → EndsWithFrame (map joined_us (joined limit durations)) frame → EndsWithFrame durations frame
ends_too limit durations frame tail ends =
    let n : ℕ = 18 * length frame + 2 in
    let us : List ℕ = map joined_us (joined limit durations) in
    let k : ℕ = length us - (n + 20) in
    let end : List Half = replicate 8 One ++ body frame in
    let count : length us ≡ length ends.before + (n + 8) =
    omega (
      arith,
      length-map us nearest_class,
      ap length ends.halves,
      length-append ends.before end,
      length-append (replicate 8 One) (body frame),
      length-body frame,
    ) in
    let last : map nearest_class tail.last ≡ drop k ends.before ++ end =
    ap (map nearest_class) (sym tail.joined_last) ∙ sym (drop-map nearest_class k us) ∙ ap (drop k) ends.halves
    ∙ drop-append-le k ends.before end (omega (arith, count)) in
    record {
      frame_rule = ends.frame_rule;
      before = map nearest_class tail.front ++ drop k ends.before;
      halves =
          ap (map nearest_class) (sym tail.whole) ∙ map-append nearest_class tail.front tail.last
          ∙ ap (λ l. map nearest_class tail.front ++ l) last
          ∙ sym (append_assoc (map nearest_class tail.front) (drop k ends.before) end);
    }

ones_too : (limit n : ℕ) (durations : List ℕ) → Tail limit n durations
    → ones_before_body n durations ≡ ones_before_body n (map joined_us (joined limit durations))
unfolding ones_before_body
ones_too limit n durations tail =
    let us : List ℕ = map joined_us (joined limit durations) in
    let c : ℕ = length tail.last - n in
    ap (λ l. ones_at_end (map nearest_class l))
    (sym (before_body durations n c (ap (λ l. length l - n) (sym tail.last_of_all)))
    ∙ ap (take c) (tail.last_of_all ∙ sym tail.joined_last)
    ∙ before_body us n c (ap (λ l. length l - n) (sym tail.joined_last)))

cause_missing : (limit : ℕ) (durations : List ℕ) (us : ℕ) (frame : List ℕ)
    → All (λ half. half ≤ 65535) (durations ++ us ∷ []) → IsFound limit (durations ++ us ∷ []) frame
    → (with_spikes limit (durations ++ us ∷ []) frame).lost.preamble ≡ None
    → (with_spikes limit (durations ++ us ∷ []) frame).lost.ones ≡ None
    → (with_spikes limit (durations ++ us ∷ []) frame).lost.zeros ≡ None
    → (with_spikes limit (durations ++ us ∷ []) frame).spikes ≡ 0 → ⊥
unfolding with_spikes causes_of with_causes
cause_missing limit durations us frame small is preamble one low spikes =
    let all : List ℕ = durations ++ us ∷ [] in
    let groups : List (List ℕ) = joined limit all in
    let numbers : List ℕ = map joined_us groups in
    let n : ℕ = 18 * length frame + 2 in
    let ones : ℕ = ones_before_body n numbers in
    let many = short_none ones (unused_at_end (halves_before n groups)) _ preamble in
    let bounds = ones_bounds n numbers in
    let count : ones ≡ 20 = omega (arith, many, bounds.0) in
    let tail = tail_of limit n durations us small
    (omega (arith, count, bounds.1, length-map groups joined_us))
    (sym (ap (λ i. sum (keep_last (n + i) (map (spikes_in limit) groups))) count) ∙ spikes) in
    let ends = ends_too limit all frame tail (longest-is numbers frame is.longest).ends in
    let ones_same = ones_too limit n all tail in
    let last_same : keep_last (n + ones_before_body n all) all ≡ keep_last (n + ones) numbers =
    ap (λ i. keep_last (n + i) all) (ones_same ∙ count) ∙ tail.last_of_all ∙ sym tail.joined_last
    ∙ ap (λ i. keep_last (n + i) numbers) (sym count) in
    let unused_same = ap unused_at_end tail.before in
    no_cause durations us frame ends (unseen_end limit durations us frame is)
    (enough_none (ones_before_body n all) (unused_at_end (take (length all - n) all)) _
    (omega (arith, many, ones_same, unused_same)))
    (ap (λ l. off_limits (filter is_off_one l)) last_same ∙ one)
    (ap (λ l. off_limits (filter is_off_zero l)) last_same ∙ low)

snoc : (first : ℕ) (durations : List ℕ) → (front : List ℕ) × (us : ℕ) × (first ∷ durations ≡ front ++ us ∷ [])
snoc first [] = ([], first, refl)
snoc first (next ∷ durations) =
    let more = snoc next durations in (first ∷ more.0, more.1, ap (λ l. first ∷ l) more.2)

caused : (limit : ℕ) (durations : List ℕ) (us : ℕ) (packet : SpikedPacket)
    → All (λ half. half ≤ 65535) (durations ++ us ∷ []) → packet_found limit (durations ++ us ∷ []) ≡ Some packet
    → HasCause packet.lost ⊎ (packet.spikes ≢ 0)
caused limit durations us packet small found =
    let is = packet-is limit (durations ++ us ∷ []) packet found in
    elim (cases_Option packet.lost.preamble) [
      | inr some ↦ inl (inl (λ none. cc))
      | inl no_preamble ↦ elim (cases_Option packet.lost.ones) [
        | inr some ↦ inl (inr (inl (λ none. cc)))
        | inl no_ones ↦ elim (cases_Option packet.lost.zeros) [
          | inr some ↦ inl (inr (inr (λ none. cc)))
          | inl no_zeros ↦
              inr (λ no_spikes. cause_missing limit durations us packet.lost.frame small is.0
              (ap (λ (p : SpikedPacket). p.lost.preamble) (sym is.1) ∙ no_preamble)
              (ap (λ (p : SpikedPacket). p.lost.ones) (sym is.1) ∙ no_ones)
              (ap (λ (p : SpikedPacket). p.lost.zeros) (sym is.1) ∙ no_zeros)
              (ap (λ (p : SpikedPacket). p.spikes) (sym is.1) ∙ no_spikes))
        ]
      ]
    ]

pub found_cause_law : FoundPacketsHaveCauses
found_cause_law limit [] packet small found =
    absurd (omega (arith, some_of_nothing limit [] (λ none. cc)))
found_cause_law limit (first ∷ durations) packet small found =
    let s = snoc first durations in
    caused limit s.0 s.1 packet (subst (All (λ half. half ≤ 65535)) s.2 small)
    (subst (λ (l : List ℕ). packet_found limit l ≡ Some packet) s.2 found)

-- without spikes

singles_all : (limit : ℕ) (durations : List ℕ) → 0 < length durations → All (λ half. limit ≤ half) durations
    → joined limit durations ≡ map single durations
singles_all limit [] some long = absurd (omega (arith, some))
singles_all limit (us ∷ durations) some long = singles_law limit us durations long

pub found_is_lost : FoundWithoutSpikesIsLost
found_is_lost limit durations us packet all found =
    let whole : List ℕ = durations ++ us ∷ [] in
    let is = (packet-is limit whole packet found).0 in
    let long = All-weaker (λ half. (limit ≤ half) × (half ≤ 65535)) (λ half. limit ≤ half)
    (λ half both. both.0) whole all
    in
    let small = All-weaker (λ half. (limit ≤ half) × (half ≤ 65535)) (λ half. half ≤ 65535) (λ half both. both.1) whole
    all in
    let same : map joined_us (joined limit whole) ≡ whole =
    ap (map joined_us) (singles_all limit whole (omega (arith, length-append durations (us ∷ []))) long)
    ∙ capped_same whole small in
    let longest = longest-is whole packet.lost.frame (sym (ap longest_frame_at_end same) ∙ is.longest) in
    record {
      ends = longest.ends;
      longest = longest.longest;
      unseen = unseen_end limit durations us packet.lost.frame is;
      between_bodies = hunting-open (rest whole) (between_hunts _ _ is.between);
    }
