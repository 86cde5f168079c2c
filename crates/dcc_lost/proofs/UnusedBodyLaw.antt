-- No packet that is seen uses a half-bit of the body of a found packet.
use Rattle.std.proofs.Common.{◌≡◌, ◌≢◌, ℕ, ◌+◌, ◌-◌, ◌*◌, ◌<◌, ◌≤◌, Bool, true, false, ◌&&◌, List, [], ◌∷◌}
use Rattle.std.proofs.Common.{◌++◌}
use Rattle.std.proofs.Common.{length, map, sum, take, drop, suc, zero, Option, Some, None, if◌then◌else◌, All, Contains}
use Rattle.std.proofs.Common.{refl, sym, ap, ◌∙◌, subst, arith, append_assoc, append-nil, length-append, ◌==◌, inl, inr}
use Rattle.std.proofs.Common.{cond, nat_le}
use Rattle.std.proofs.lemmas.Bool.{cases_Bool, eqb-true}
use Rattle.std.proofs.lemmas.List.{take-append-drop}
use Rattle.std.proofs.lemmas.List.Concat.{flat_map-append}
use Rattle.std.proofs.lemmas.List.Sums.{sum_by-cons}
use Rattle.std.proofs.lemmas.List.Elements.{All-append, All-contains, All-nil, All-cons, All-weaker}
use Rattle.std.proofs.lemmas.List.Elements.{Contains-append_cases}
use Rattle.std.proofs.lemmas.Bool.{eq-eqb}
use Rattle.dcc_lost.specs.Lost.{packet_of_length}
use Rattle.std.specs.List.{count_by}
use Rattle.std.specs.Option.{option_map, option_and_then}
use Rattle.dcc_wire.specs.declared.half.Half.{Half}
use Rattle.dcc_wire.specs.declared.half.Half.TheVariants.{One, Zero, Bad}
use Rattle.dcc_wire.specs.declared.seen.Seen.{Seen}
use Rattle.dcc_wire.specs.declared.seen.Seen.TheVariants.{Nothing, Packet, Refused}
use Rattle.dcc_wire.specs.Framing.{Rest, Hunting, InBody, is_hunting, report_at, rest, seen}
use Rattle.dcc_wire.specs.Half.{class_of}
use Rattle.dcc_wire.specs.Inner.Steps.{answer_of, answer_to, left_of, rest_after}
use Rattle.dcc_wire.specs.Outcomes.{outcome_of}
use Rattle.dcc_wire.proofs.ByteBits.{cases_Option, some_same}
use Rattle.dcc_wire.proofs.FramingLemmas.{rest-push, seen-push}
use Rattle.dcc_wire.proofs.OutcomeRows.{outcomes-rows}
use Rattle.dcc_wire.proofs.SeenLemmas.{seen-grows, seen-none}
use Rattle.dcc_timing.specs.Numbers.{keep_last}
use Rattle.dcc_timing.specs.Outcomes.{is_packet}
use Rattle.dcc_lost.specs.declared.joined.SpikedPacket.{SpikedPacket}
use Rattle.dcc_lost.specs.Joined.{halves_of_all, joined, joined_us}
use Rattle.dcc_lost.specs.JoinedLost.{causes_of, frame_found, halves_before, is_free_end, of_each}
use Rattle.dcc_lost.specs.JoinedLost.{packet_found, packets_heard, packets_in_last, packets_within, unless_seen}
use Rattle.dcc_lost.specs.JoinedLost.{with_spikes}
use Rattle.dcc_lost.specs.JoinedLaws.{FoundBodiesAreUnused}
use Rattle.dcc_lost.specs.Lost.{longest_frame_at_end}
use Rattle.dcc_lost.proofs.JoinedLemmas.{all_kept, count_by-append, heard_grows}
use Rattle.dcc_lost.proofs.FoundLemmas.{length-of_each}
use Rattle.dcc_lost.proofs.LawLemmas.{length-body}
use Rattle.dcc_lost.proofs.FrameLemmas.{no_packet}

-- the parts of a found packet

pub record IsFound (limit : ℕ) (durations frame : List ℕ) : Type 0 where
  pub between : is_free_end durations ≡ true
  pub longest : longest_frame_at_end (map joined_us (joined limit durations)) ≡ Some frame
  pub free : packets_in_last (18 * length frame + 2) (joined limit durations) ≡ 0

found_parts : (groups : List (List ℕ)) (longest : Option (List ℕ)) (frame : List ℕ)
    → option_and_then (unless_seen groups) longest ≡ Some frame
    → (longest ≡ Some frame) × (packets_in_last (18 * length frame + 2) groups ≡ 0)
unfolding unless_seen
found_parts groups None frame e = cc
found_parts groups (Some other) frame e =
    elim (cases_Bool (packets_in_last (18 * length other + 2) groups == 0)) [
      | inl none ↦
          let same : other ≡ frame = some_same (rw none at e) in (
            ap Some same,
            subst (λ (l : List ℕ). packets_in_last (18 * length l + 2) groups ≡ 0) same
                (eqb-true (packets_in_last (18 * length other + 2) groups) 0 none),
          )
      | inr some ↦ absurd (cc (rw some at e))
    ]

pub frame-is : (limit : ℕ) (durations frame : List ℕ) → frame_found limit durations ≡ Some frame
    → IsFound limit durations frame
unfolding frame_found
frame-is limit durations frame e = elim (cases_Bool (is_free_end durations)) [
  | inl is_true ↦
      let parts = found_parts (joined limit durations) _ frame (rw is_true at e) in
      record { between = is_true; longest = parts.0; free = parts.1 }
  | inr is_false ↦ absurd (cc (rw is_false at e))
]

pub packet-is : (limit : ℕ) (durations : List ℕ) (packet : SpikedPacket) → packet_found limit durations ≡ Some packet
    → IsFound limit durations packet.lost.frame × (packet ≡ with_spikes limit durations packet.lost.frame)
unfolding packet_found with_spikes causes_of
packet-is limit durations packet e = go (frame_found limit durations) refl e
  where
    go : (frame : Option (List ℕ)) → frame_found limit durations ≡ frame
        → option_map (with_spikes limit durations) frame ≡ Some packet
        → IsFound limit durations packet.lost.frame × (packet ≡ with_spikes limit durations packet.lost.frame)
    go None is e = cc
    go (Some frame) is e =
        let same : with_spikes limit durations frame ≡ packet = some_same e in
        let frames : frame ≡ packet.lost.frame = ap (λ (p : SpikedPacket). p.lost.frame) same in (
          frame-is limit durations packet.lost.frame (is ∙ ap Some frames),
          sym same ∙ ap (with_spikes limit durations) frames,
        )

-- no packet ends within the last joined half-bits

none_within : (before : List ℕ) (groups : List (List ℕ)) → sum (of_each packets_within before groups) ≡ 0
    → packets_heard (before ++ halves_of_all groups) ≡ packets_heard before
unfolding of_each
none_within before [] none = ap packets_heard (append-nil before)
none_within before (group ∷ groups) none =
    let first = sum_by-cons (λ n. n) (packets_within before group) (of_each packets_within (before ++ group) groups) in
    let here : packets_heard (before ++ group) ≡ packets_heard before =
    omega (arith, none, first, heard_grows before group) in
    ap packets_heard (sym (append_assoc before group (halves_of_all groups)))
    ∙ none_within (before ++ group) groups (omega (arith, none, first)) ∙ here

of_each-drop : (measure : List ℕ → List ℕ → ℕ) (before : List ℕ) (groups : List (List ℕ)) (k : ℕ)
    → drop k (of_each measure before groups)
    ≡ of_each measure (before ++ halves_of_all (take k groups)) (drop k groups)
unfolding of_each
of_each-drop measure before groups zero = ap (λ l. of_each measure l groups) (sym (append-nil before))
of_each-drop measure before [] (suc k) = refl
of_each-drop measure before (group ∷ groups) (suc k) =
    of_each-drop measure (before ++ group) groups k
    ∙ ap (λ l. of_each measure l (drop k groups)) (append_assoc before group (halves_of_all (take k groups)))

pub heard_before : (groups : List (List ℕ)) (n : ℕ) → packets_in_last n groups ≡ 0
    → packets_heard (halves_of_all groups) ≡ packets_heard (halves_before n groups)
heard_before groups n none =
    let k : ℕ = length groups - n in
    let place : length (of_each packets_within [] groups) - n ≡ k =
    ap (λ m. m - n) (length-of_each packets_within [] groups) in
    let last : keep_last n (of_each packets_within [] groups)
    ≡ of_each packets_within (halves_before n groups) (drop k groups) =
    ap (λ m. drop m (of_each packets_within [] groups)) place ∙ of_each-drop packets_within [] groups k in
    ap packets_heard (ap halves_of_all (sym (take-append-drop k groups))
    ∙ flat_map-append (λ group. group) (take k groups) (drop k groups))
    ∙ none_within (halves_before n groups) (drop k groups) (sym (ap sum last) ∙ none)

-- the outcomes of a longer list

-- `outcome` comes after `count` half-bits, and a packet has at most `k` half-bits of its body before
abbrev IsLater : ℕ → ℕ → ℕ × Seen → Type 0
IsLater count k (place, Packet bytes) = (count ≤ place) × (count + (18 * length bytes + 2) ≤ place + 1 + k)
IsLater count k (place, Refused fault) = count ≤ place
IsLater count k (place, Nothing) = count ≤ place

-- at most `k` half-bits of an unfinished body
abbrev HasAtMost : ℕ → Rest → Type 0
HasAtMost k (Hunting ones) = Unit {0}
HasAtMost k (InBody halves) = length halves ≤ k

not_packet : (halves : List Half) (count : ℕ) (bytes : List ℕ)
    → packet_of_length (length bytes) (outcome_of halves) ≡ None → outcome_of halves ≢ Some (count, Packet bytes)
unfolding packet_of_length
not_packet halves count bytes none e =
    let found : packet_of_length (length bytes) (Some (count, Packet bytes)) ≡ Some bytes =
    rw (eq-eqb (length bytes) (length bytes) refl) refl in
    let both : packet_of_length (length bytes) (Some (count, Packet bytes)) ≡ None =
    ap (packet_of_length (length bytes)) (sym e) ∙ none in cc

packet_long : (halves : List Half) (count : ℕ) (bytes : List ℕ) → outcome_of halves ≡ Some (count, Packet bytes)
    → 18 * length bytes + 2 ≤ length halves
packet_long (Zero ∷ more) count bytes e =
    let comes = (outcomes-rows more count (Packet bytes)).1 e in
    omega (
      arith,
      ap length comes.3.1,
      length-append comes.0 comes.3.0,
      ap length comes.1.1,
      length-body bytes,
    )
packet_long [] count bytes e =
    absurd (not_packet [] count bytes (no_packet (length bytes) [] (λ more same. cc)) e)
packet_long (One ∷ halves) count bytes e =
    absurd (not_packet (One ∷ halves) count bytes (no_packet (length bytes) (One ∷ halves) (λ more same. cc)) e)
packet_long (Bad ∷ halves) count bytes e =
    absurd (not_packet (Bad ∷ halves) count bytes (no_packet (length bytes) (Bad ∷ halves) (λ more same. cc)) e)

few_next : (k : ℕ) (before : Rest) (half : Half) → HasAtMost k before → HasAtMost (k + 1) (rest_after before half)
unfolding rest_after left_of
few_next k (Hunting ones) One few = tt
few_next k (Hunting ones) Bad few = tt
few_next k (Hunting ones) Zero few = go (nat_le 20 ones)
  where
    go : (enough : Bool) → HasAtMost (k + 1) (if enough then InBody (Zero ∷ []) else Hunting 0)
    go true = omega arith
    go false = tt
few_next k (InBody halves) half few = elim (cases_Option (outcome_of (halves ++ half ∷ []))) [
  | inl none ↦ rw none (omega (arith, few, length-append halves (half ∷ [])))
  | inr some ↦ rw some.1 tt
]

later_here : (count k : ℕ) (before : Rest) (half : Half) → HasAtMost k before
    → All (IsLater count k) (report_at count (answer_to before half))
unfolding answer_to answer_of report_at
later_here count k (Hunting ones) half few = All-nil (IsLater count k)
later_here count k (InBody halves) half few = elim (cases_Option (outcome_of (halves ++ half ∷ []))) [
  | inl none ↦ rw none (All-nil (IsLater count k))
  | inr (p, e) ↦ rw e (go p.0 p.1 e)
]
  where
    go : (n : ℕ) (answer : Seen) → outcome_of (halves ++ half ∷ []) ≡ Some (n, answer)
        → All (IsLater count k) (report_at count answer)
    go n Nothing e = All-nil (IsLater count k)
    go n (Refused fault) e = All-cons (IsLater count k) (count, Refused fault) [] (omega arith) (All-nil _)
    go n (Packet bytes) e =
        let long = packet_long (halves ++ half ∷ []) n bytes e in
        All-cons (IsLater count k) (count, Packet bytes) [] (
          omega arith,
          omega (arith, long, few, length-append halves (half ∷ [])),
        ) (All-nil _)

less_late : (count k : ℕ) (outcome : ℕ × Seen) → IsLater (count + 1) (k + 1) outcome → IsLater count k outcome
less_late count k (place, Packet bytes) later = (omega (arith, later.0), omega (arith, later.1))
less_late count k (place, Refused fault) later = omega (arith, later)
less_late count k (place, Nothing) later = omega (arith, later)

pub seen_later : (durations more : List ℕ) (k : ℕ) → HasAtMost k (rest durations)
    → (added : List (ℕ × Seen)) × (seen (durations ++ more) ≡ seen durations ++ added)
    × All (IsLater (length durations) k) added
seen_later durations [] k few =
    ([], ap seen (append-nil durations) ∙ sym (append-nil (seen durations)), All-nil (IsLater (length durations) k))
seen_later durations (us ∷ more) k few =
    let long : List ℕ = durations ++ us ∷ [] in
    let next = seen_later long more (k + 1) (rw (rest-push durations us) (few_next k (rest durations)
    (class_of us) few))
    in
    let here : List (ℕ × Seen) = report_at (length durations) (answer_to (rest durations) (class_of us)) in
    let others = subst (λ (n : ℕ). All (IsLater n (k + 1)) next.0) (length-append durations (us ∷ [])) next.2 in (
      here ++ next.0,
      ap seen (sym (append_assoc durations (us ∷ []) more)) ∙ next.1
          ∙ ap (λ l. l ++ next.0) (seen-push durations us) ∙ append_assoc (seen durations) here next.0,
      All-append (IsLater (length durations) k) here next.0
          (later_here (length durations) k (rest durations) (class_of us) few)
          (All-weaker _ _ (less_late (length durations) k) next.0 others),
    )

-- places of outcomes

abbrev IsBelow : ℕ → ℕ × Seen → Type 0
IsBelow count outcome = outcome.0 < count

below_here : (count : ℕ) (answer : Seen) → All (IsBelow (count + 1)) (report_at count answer)
unfolding report_at
below_here count Nothing = All-nil (IsBelow (count + 1))
below_here count (Packet bytes) = All-cons (IsBelow (count + 1)) (count, Packet bytes) [] (omega arith) (All-nil _)
below_here count (Refused fault) = All-cons (IsBelow (count + 1)) (count, Refused fault) [] (omega arith) (All-nil _)

seen_below_from : (before more : List ℕ) → All (IsBelow (length before)) (seen before)
    → All (IsBelow (length (before ++ more))) (seen (before ++ more))
seen_below_from before [] below = rw append-nil below
seen_below_from before (us ∷ more) below =
    let count = length-append before (us ∷ []) in
    let next : All (IsBelow (length (before ++ us ∷ []))) (seen (before ++ us ∷ [])) =
    rw (count, seen-push before us) (All-append (IsBelow (length before + 1)) (seen before) _
    (All-weaker (IsBelow (length before)) (IsBelow (length before + 1)) (λ outcome less. omega (arith, less))
    (seen before) below)
    (below_here (length before) (answer_to (rest before) (class_of us)))) in
    rw (← append_assoc before (us ∷ []) more) (seen_below_from (before ++ us ∷ []) more next)

pub seen_below : (durations : List ℕ) → All (IsBelow (length durations)) (seen durations)
seen_below durations = seen_below_from [] durations (rw seen-none (All-nil (IsBelow 0)))

-- the law

-- the number of packets that an outcome is
abbrev weight : Bool → ℕ
weight b = cond b 1 0

all_others : (outcomes : List (ℕ × Seen)) → count_by is_packet outcomes ≡ 0
    → All (λ outcome. is_packet outcome ≡ false) outcomes
all_others [] none = All-nil (λ outcome. is_packet outcome ≡ false)
all_others (outcome ∷ outcomes) none =
    let first = sum_by-cons (λ o. cond (is_packet o) 1 0) outcome outcomes in
    elim (cases_Bool (is_packet outcome)) [
      | inl is_true ↦
          absurd (omega (arith, none, first, ap weight is_true))
      | inr is_false ↦ All-cons (λ outcome. is_packet outcome ≡ false) outcome outcomes is_false
          (all_others outcomes (omega (arith, none, first)))
    ]

no_packets : (outcomes : List (ℕ × Seen)) (place : ℕ) (bytes : List ℕ) → count_by is_packet outcomes ≡ 0
    → Contains outcomes (place, Packet bytes) → ⊥
no_packets outcomes place bytes none has =
    let not_one : is_packet (place, Packet bytes) ≡ false =
    All-contains (λ outcome. is_packet outcome ≡ false) outcomes (place, Packet bytes) (all_others outcomes none) has in
    cc

-- a packet that is seen in a list ends in any front of this list with as many packets
in_front : (front back : List ℕ) (place : ℕ) (bytes : List ℕ) → packets_heard (front ++ back) ≡ packets_heard front
    → Contains (seen (front ++ back)) (place, Packet bytes) → place < length front
in_front front back place bytes same has =
    let grows = seen-grows front back in
    let none : count_by is_packet grows.0 ≡ 0 =
    omega (arith, same, ap (count_by is_packet) grows.1, count_by-append is_packet (seen front) grows.0) in
    elim (Contains-append_cases (seen front) grows.0 (place, Packet bytes)
    (subst (λ (l : List (ℕ × Seen)). Contains l (place, Packet bytes)) grows.1 has)) [
      | inl early ↦ All-contains (IsBelow (length front)) (seen front) (place, Packet bytes) (seen_below front) early
      | inr late ↦ absurd (no_packets grows.0 place bytes none late)
    ]

hunting_few : (was : Rest) → is_hunting was ≡ true → HasAtMost 0 was
hunting_few (Hunting ones) is_true = tt
hunting_few (InBody halves) is_true = absurd cc

pub between_hunts : (hunts past : Bool) → (hunts && past) ≡ true → hunts ≡ true
between_hunts true past e = refl
between_hunts false past e = e

pub unused_law : FoundBodiesAreUnused
unused_law limit durations more packet place bytes found has =
    let is = (packet-is limit durations packet found).0 in
    let groups : List (List ℕ) = joined limit durations in
    let n : ℕ = 18 * length packet.lost.frame + 2 in
    let hunts = between_hunts _ _ is.between in
    let later = seen_later durations more 0 (hunting_few (rest durations) hunts) in
    elim (Contains-append_cases (seen durations) later.0 (place, Packet bytes)
    (subst (λ (l : List (ℕ × Seen)). Contains l (place, Packet bytes)) later.1 has)) [
      | inr after ↦
          let late = All-contains (IsLater (length durations) 0) later.0 (place, Packet bytes) later.2 after in
          inr (omega (arith, late.1))
      | inl within ↦
          let k : ℕ = length groups - n in
          let front : List ℕ = halves_before n groups in
          let back : List ℕ = halves_of_all (drop k groups) in
          let whole : durations ≡ front ++ back =
          sym (all_kept limit durations) ∙ ap halves_of_all (sym (take-append-drop k groups))
          ∙ flat_map-append (λ group. group) (take k groups) (drop k groups) in
          let same : packets_heard (front ++ back) ≡ packets_heard front =
          ap packets_heard (sym whole ∙ sym (all_kept limit durations)) ∙ heard_before groups n is.free in
          inl (in_front front back place bytes same
          (subst (λ (l : List ℕ). Contains (seen l) (place, Packet bytes)) whole within))
    ]
