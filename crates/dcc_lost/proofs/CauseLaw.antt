-- A packet without a cause would be seen.
use Rattle.std.proofs.Common.{◌≡◌, ◌≢◌, ℕ, suc, zero, ◌+◌, ◌-◌, ◌*◌, ◌<◌, ◌≤◌, min, List, [], ◌∷◌, ◌++◌, length, take}
use Rattle.std.proofs.Common.{drop, map}
use Rattle.std.proofs.Common.{replicate, reverse, Option, Some, None, Bool, true, false, refl, sym, ap, ◌∙◌, arith, inl}
use Rattle.std.proofs.Common.{inr}
use Rattle.std.proofs.Common.{append_assoc, append-nil, length-append, length-drop, if◌then◌else◌}
use Rattle.std.specs.List.{filter}
use Rattle.std.proofs.lemmas.Bool.{cases_Bool, cases_lt, le-leb, lt-ltb}
use Rattle.std.proofs.lemmas.Bool.Decides.{nat_tests}
use Rattle.std.proofs.lemmas.List.{drop-map, take-append-drop, map-append, length-map, drop-append-le}
use Rattle.std.proofs.lemmas.List.{length-reverse, take_all, take-append-le, reverse-reverse}
use Rattle.std.proofs.Math.Seq.{drop-append_seam, take-append_seam}
use Rattle.dcc_wire.specs.declared.half.Half.{Half}
use Rattle.dcc_wire.specs.declared.half.Half.TheVariants.{One, Zero, Bad}
use Rattle.dcc_wire.specs.declared.seen.Seen.{Seen}
use Rattle.dcc_wire.specs.declared.seen.Seen.TheVariants.{Nothing, Packet, Refused}
use Rattle.dcc_wire.specs.Bodies.{body, body_bits, halves_of}
use Rattle.dcc_wire.specs.Frames.{IsFrame}
use Rattle.dcc_wire.specs.Framing.{Rest, Hunting, InBody, ones_before, ones_at_end, seen, rest, report_at}
use Rattle.dcc_wire.specs.Half.{class_of}
use Rattle.dcc_wire.specs.Outcomes.{outcome_of, ones_left}
use Rattle.dcc_wire.specs.Inner.Steps.{answer_of, answer_to, left_of, rest_after}
use Rattle.dcc_wire.proofs.ByteBits.{cases_Option, some_same}
use Rattle.dcc_wire.proofs.ByteLemmas.{AllBytes-of}
use Rattle.dcc_wire.proofs.FramingLemmas.{rest-push, seen-push, report_shows}
use Rattle.dcc_wire.proofs.OutcomeLemmas.{outcome_of-something}
use Rattle.dcc_wire.proofs.SendingLemmas.{outcome_of-body, unfinished}
use Rattle.dcc_timing.specs.Numbers.{keep_last}
use Rattle.dcc_lost.specs.declared.causes.LostPacket.{LostPacket}
use Rattle.dcc_lost.specs.Nearest.{nearest_class}
use Rattle.dcc_wire.specs.Framing.{is_hunting}
use Rattle.dcc_lost.specs.Lost.{frame_lost}
use Rattle.dcc_lost.specs.Unused.{last_outcome, unused_after, unused_at_end}
use Rattle.dcc_lost.specs.Causes.{is_off_one, is_off_zero, off_limits, ones_before_body, short_preamble, with_causes}
use Rattle.dcc_lost.specs.Causes.{packet_lost}
use Rattle.dcc_lost.specs.LostLaws.{EndsWithFrame, LostPacketsHaveCauses}
use Rattle.dcc_lost.proofs.HeardLemmas.{last_outcome-push}
use Rattle.dcc_lost.proofs.UsedLemmas.{unused_by_last}
use Rattle.dcc_lost.proofs.LawLemmas.{length-body, ones_first, lost-is}

-- half-bits within the limits have their nearest class

abbrev NoBad : List Half → Type 0
NoBad [] = Unit {0}
NoBad (Bad ∷ halves) = ⊥
NoBad (half ∷ halves) = NoBad halves

no_bad-halves_of : (bits : List Bool) → NoBad (halves_of bits)
unfolding halves_of
no_bad-halves_of [] = tt
no_bad-halves_of (true ∷ bits) = no_bad-halves_of bits
no_bad-halves_of (false ∷ bits) = no_bad-halves_of bits

no_bad-ones : (n : ℕ) (halves : List Half) → NoBad halves → NoBad (replicate n One ++ halves)
no_bad-ones zero halves good = good
no_bad-ones (suc n) halves good = no_bad-ones n halves good

within_limits : (us : ℕ) → is_off_one us ≡ false → is_off_zero us ≡ false → nearest_class us ≢ Bad
    → class_of us ≡ nearest_class us
within_limits us one low good = grind (arith, nat_tests)

first_off : (has_kind : ℕ → Bool) (us : ℕ) (durations : List ℕ) → filter has_kind (us ∷ durations) ≡ []
    → (has_kind us ≡ false) × (filter has_kind durations ≡ [])
first_off has_kind us durations e = elim (cases_Bool (has_kind us)) [
  | inl told ↦ absurd (cc (rw told at e))
  | inr told ↦ (told, rw told at e)
]

first_good : (half : Half) (halves : List Half) → NoBad (half ∷ halves) → (half ≢ Bad) × NoBad halves
first_good One halves good = (λ e. cc, good)
first_good Zero halves good = (λ e. cc, good)
first_good Bad halves good = absurd good

all_within : (durations : List ℕ) → filter is_off_one durations ≡ [] → filter is_off_zero durations ≡ []
    → NoBad (map nearest_class durations) → map class_of durations ≡ map nearest_class durations
all_within [] one low good = refl
all_within (us ∷ durations) one low good =
    let ones = first_off is_off_one us durations one in
    let lows = first_off is_off_zero us durations low in
    let goods = first_good (nearest_class us) (map nearest_class durations) good in
    let here = within_limits us ones.0 lows.0 goods.0 in
    let others = all_within durations ones.1 lows.1 goods.1 in
    cc

-- ones that no outcome uses count

Counts : List ℕ → ℕ → Type 0
Counts durations n =
    (ones : ℕ) → rest durations ≡ Hunting ones
    → min n (unused_after (length durations) (last_outcome (seen durations))) ≤ ones

unused_after-suc : (count : ℕ) (last : Option (ℕ × Seen)) → unused_after (count + 1) last ≤ unused_after count last + 1
unfolding unused_after
unused_after-suc count None = omega arith
unused_after-suc count (Some (place, outcome)) = omega arith

unused_after-new : (count : ℕ) (outcome : Seen) → unused_after (count + 1) (Some (count, outcome)) ≡ ones_left outcome
unfolding unused_after
unused_after-new count outcome = omega arith

hunting_same : (a b : ℕ) → Hunting a ≡ Hunting b → a ≡ b
hunting_same a b e = cc

reported : (so_far : List (ℕ × Seen)) (place : ℕ) (answer : Seen) → answer ≢ Nothing
    → last_outcome (so_far ++ report_at place answer) ≡ Some (place, answer)
unfolding report_at
reported so_far place Nothing something = absurd (something refl)
reported so_far place (Packet bytes) something = last_outcome-push so_far (place, Packet bytes)
reported so_far place (Refused fault) something = last_outcome-push so_far (place, Refused fault)

-- one more half-bit of a one, after this state
count_from : (durations : List ℕ) (us n : ℕ) (was : Rest) → was ≡ rest durations → class_of us ≡ One → n < 20
    → Counts durations n → Counts (durations ++ us ∷ []) (n + 1)
unfolding Counts rest_after answer_to report_at left_of answer_of
count_from durations us n (Hunting before) is one few counts ones e =
    let now : Hunting (min 20 (before + 1)) ≡ Hunting ones =
    sym (rest-push durations us ∙ rw (← is, one)) ∙ e in
    let same : seen (durations ++ us ∷ []) ≡ seen durations =
    seen-push durations us ∙ rw (← is) (append-nil (seen durations)) in
    let more = hunting_same (min 20 (before + 1)) ones now in
    let count : length (durations ++ us ∷ []) ≡ length durations + 1 = length-append durations (us ∷ []) in
    rw (same, count)
    (omega (
      arith,
      few,
      more,
      counts before (sym is),
      unused_after-suc (length durations)
          (last_outcome (seen durations)),
    ))
count_from durations us n (InBody halves) is one few counts ones e =
    elim (cases_Option (outcome_of (halves ++ One ∷ []))) [
      | inl none ↦
          let now : rest (durations ++ us ∷ []) ≡ InBody (halves ++ One ∷ []) =
          rest-push durations us ∙ rw (← is, one, none) in
          absurd (cc)
      | inr some ↦
          let now : Hunting (ones_left some.0.1) ≡ Hunting ones =
          sym (rest-push durations us ∙ rw (← is, one, some.1)) ∙ e in
          let left = hunting_same (ones_left some.0.1) ones now in
          let shows : seen (durations ++ us ∷ []) ≡ seen durations ++ report_at (length durations) some.0.1 =
          seen-push durations us ∙ rw (← is, one, some.1) in
          let something : some.0.1 ≢ Nothing = λ e. absurd (cc (outcome_of-something (halves ++ One ∷ [])
          (rw some.1 e))) in
          let count : length (durations ++ us ∷ []) ≡ length durations + 1 = length-append durations (us ∷ []) in
          rw (shows, count, reported (seen durations) (length durations) some.0.1 something)
          (omega (arith, left, unused_after-new (length durations) some.0.1))
    ]

count_all : (durations more : List ℕ) (n m : ℕ) → map class_of more ≡ replicate m One → n + m ≤ 20 → Counts durations n
    → Counts (durations ++ more) (n + m)
count_all durations [] n zero all few counts =
    let same : n + 0 ≡ n = omega arith in rw (append-nil durations, same) counts
count_all durations [] n (suc m) all few counts = absurd cc
count_all durations (us ∷ more) n zero all few counts = absurd cc
count_all durations (us ∷ more) n (suc m) all few counts =
    let one : class_of us ≡ One = cc in
    let others : map class_of more ≡ replicate m One = cc in
    let count : n + 1 + m ≡ n + suc m = omega arith in
    let here = count_from durations us n (rest durations) refl one (omega arith) counts in
    rw (← append_assoc durations (us ∷ []) more, ← count)
    (count_all (durations ++ us ∷ []) more (n + 1) m others (omega arith) here)

none_counts : (durations : List ℕ) → Counts durations 0
unfolding Counts
none_counts durations ones e = omega arith

twenty_left : (before ones : List ℕ) (n : ℕ) → map class_of ones ≡ replicate 20 One → rest (before ++ ones) ≡ Hunting n
    → 20 ≤ unused_after (length (before ++ ones)) (last_outcome (seen (before ++ ones))) → 20 ≤ n
unfolding Counts
twenty_left before ones n all hunts unused =
    omega (arith, unused, count_all before ones 0 20 all (omega arith) (none_counts before) n hunts)

-- a body after 20 half-bits of ones is seen

open_body : (before done more : List ℕ) (back : List Half) (frame : List ℕ) → IsFrame frame
    → rest (before ++ done) ≡ InBody (map class_of done)
    → (map class_of done ++ map class_of more) ++ back ≡ body frame → 0 < length back
    → rest (before ++ (done ++ more)) ≡ InBody (map class_of (done ++ more))
unfolding rest_after left_of
open_body before done [] back frame packet inside e some = rw append-nil inside
open_body before done (us ∷ more) back frame packet inside e some =
    let front : List Half = map class_of done ++ class_of us ∷ [] in
    let whole : front ++ (map class_of more ++ back) ≡ body frame =
    sym (append_assoc front (map class_of more) back)
    ∙ ap (λ l. l ++ back) (append_assoc (map class_of done) (class_of us ∷ []) (map class_of more)) ∙ e in
    let none = unfinished frame front (map class_of more ++ back) (AllBytes-of frame packet.each) packet.most whole
    (omega (
      arith,
      ap length whole,
      length-append front (map class_of more ++ back),
      length-append (map class_of more) back,
      some,
    )) in
    let mapped : map class_of (done ++ us ∷ []) ≡ front = map-append class_of done (us ∷ []) in
    let next : rest (before ++ (done ++ us ∷ [])) ≡ InBody (map class_of (done ++ us ∷ [])) =
    ap rest (sym (append_assoc before done (us ∷ []))) ∙ rest-push (before ++ done) us
    ∙ ap (λ r. rest_after r (class_of us)) inside ∙ rw (none, mapped) in
    let on = open_body before (done ++ us ∷ []) more back frame packet next
    (ap (λ l. (l ++ map class_of more) ++ back) mapped ∙ append_assoc front (map class_of more) back ∙ whole) some in
    rw (← append_assoc done (us ∷ []) more) on

begins : (frame : List ℕ) → IsFrame frame → (more : List Half) × (body frame ≡ Zero ∷ more)
unfolding body body_bits halves_of
begins [] packet = absurd (omega (arith, packet.least))
begins (byte ∷ bytes) packet = (_, refl)

seen_at_end : (before more : List ℕ) (us n : ℕ) (frame : List ℕ) → IsFrame frame → rest before ≡ Hunting n → 20 ≤ n
    → map class_of (more ++ us ∷ []) ≡ body frame → seen ((before ++ more) ++ us ∷ []) ≢ seen (before ++ more)
unfolding rest_after answer_to answer_of
seen_at_end before [] us n frame packet hunts enough e same =
    absurd (omega (arith, ap length e, length-body frame, packet.least))
seen_at_end before (first ∷ more) us n frame packet hunts enough e same =
    let start = begins frame packet in
    let zero : class_of first ≡ Zero = cc in
    let first_in : rest (before ++ first ∷ []) ≡ InBody (class_of first ∷ []) =
    rest-push before first ∙ rw (hunts, zero, le-leb 20 n enough) in
    let inside = open_body before (first ∷ []) more (class_of us ∷ []) frame packet first_in
    (sym (map-append class_of (first ∷ more) (us ∷ [])) ∙ e) (omega arith) in
    let ends : outcome_of (map class_of (first ∷ more) ++ class_of us ∷ []) ≡ Some (length (body frame), Packet frame) =
    ap outcome_of (sym (map-append class_of (first ∷ more) (us ∷ [])) ∙ e) ∙ outcome_of-body frame packet in
    report_shows (seen (before ++ first ∷ more)) (length (before ++ first ∷ more)) (Packet frame) (λ nothing. cc)
    (sym (seen-push (before ++ first ∷ more) us ∙ rw (inside, ends)) ∙ same)

-- what no cause means

pub short_none : (ones unused : ℕ) (since : Option ℕ) → short_preamble ones unused since ≡ None → 20 ≤ min ones unused
unfolding short_preamble
short_none ones unused since e = elim (cases_lt (min ones unused) 20) [
  | inl few ↦ absurd (cc (rw (lt-ltb (min ones unused) 20 few) at e))
  | inr many ↦ many
]

off_none : (durations : List ℕ) → off_limits durations ≡ None → durations ≡ []
unfolding off_limits
off_none [] e = refl
off_none (us ∷ durations) e = absurd cc

pub ones_before-few : (halves : List Half) → ones_before halves ≤ length halves
unfolding ones_before
ones_before-few [] = omega arith
ones_before-few (One ∷ halves) = omega (arith, ones_before-few halves)
ones_before-few (Zero ∷ halves) = omega arith
ones_before-few (Bad ∷ halves) = omega arith

ones_all : (halves : List Half) → length halves ≤ 20 → 20 ≤ ones_at_end halves → halves ≡ replicate 20 One
unfolding ones_at_end
ones_all halves few many =
    let count : length (reverse halves) ≡ 20 =
    omega (arith, few, many, ones_before-few (reverse halves), length-reverse halves) in
    let turned : reverse halves ≡ replicate 20 One =
    sym (take_all 20 (reverse halves) (omega (arith, count))) ∙ ones_first 20 (reverse halves) many in
    sym (reverse-reverse halves) ∙ ap reverse turned

unused_from_rest : (durations : List ℕ) (was : Rest) → rest durations ≡ was
    → 20 ≤ (if is_hunting was then min 20 (unused_after (length durations) (last_outcome (seen durations))) else 0)
    → (n : ℕ) × (rest durations ≡ Hunting n) × (20 ≤ unused_after (length durations) (last_outcome (seen durations)))
unused_from_rest durations (Hunting n) is many = (n, is, omega (arith, many))
unused_from_rest durations (InBody halves) is many = absurd (omega (arith, many))

unused_twenty : (durations : List ℕ) → 20 ≤ unused_at_end durations
    → (n : ℕ) × (rest durations ≡ Hunting n) × (20 ≤ unused_after (length durations) (last_outcome (seen durations)))
unused_twenty durations many = unused_from_rest durations (rest durations) refl (rw (unused_by_last durations) at many)

split_same : (a b c d : List Half) → length a ≡ length c → a ++ b ≡ c ++ d → (a ≡ c) × (b ≡ d)
split_same a b c d count e = (
  sym (take-append_seam a b) ∙ ap (take (length a)) e ∙ ap (λ n. take n (c ++ d)) count ∙ take-append_seam c d,
  sym (drop-append_seam a b) ∙ ap (drop (length a)) e ∙ ap (λ n. drop n (c ++ d)) count ∙ drop-append_seam c d,
)

-- 20 half-bits of ones within the limits, and a body within the limits after them
within : (ones last : List ℕ) (frame : List ℕ) → map nearest_class ones ≡ replicate 20 One
    → map nearest_class last ≡ body frame → filter is_off_one (ones ++ last) ≡ [] → filter is_off_zero (ones ++ last)
    ≡ []
    → (map class_of ones ≡ replicate 20 One) × (map class_of last ≡ body frame)
unfolding body
within ones last frame twenty is one low =
    let near : map nearest_class (ones ++ last) ≡ replicate 20 One ++ body frame =
    map-append nearest_class ones last ∙ ap (λ l. l ++ map nearest_class last) twenty
    ∙ ap (λ l. replicate 20 One ++ l) is in
    let good : NoBad (map nearest_class (ones ++ last)) =
    rw near (no_bad-ones 20 (body frame) (no_bad-halves_of (body_bits frame))) in
    let strict : map class_of ones ++ map class_of last ≡ replicate 20 One ++ body frame =
    sym (map-append class_of ones last) ∙ all_within (ones ++ last) one low good ∙ near in
    split_same (map class_of ones) (map class_of last) (replicate 20 One) (body frame)
    (omega (arith, length-map ones class_of, length-map ones nearest_class, ap length twenty)) strict

-- the end of a list with a frame
pub record Parts (durations : List ℕ) (us : ℕ) (frame : List ℕ) : Type 0 where
  pub before : List ℕ
  pub most : List ℕ
  pub all : before ++ most ≡ durations
  pub last : map nearest_class (most ++ us ∷ []) ≡ body frame
  pub front : take (length (durations ++ us ∷ []) - (18 * length frame + 2)) (durations ++ us ∷ []) ≡ before

pub parts : (durations : List ℕ) (us : ℕ) (frame : List ℕ) → EndsWithFrame (durations ++ us ∷ []) frame
    → Parts durations us frame
parts durations us frame ends =
    let long : List ℕ = durations ++ us ∷ [] in
    let front : List Half = ends.before ++ replicate 8 One in
    let k : ℕ = length long - (18 * length frame + 2) in
    let halves : map nearest_class long ≡ front ++ body frame =
    ends.halves ∙ sym (append_assoc ends.before (replicate 8 One) (body frame)) in
    let count : length long ≡ length front + (18 * length frame + 2) =
    omega (arith, length-map long nearest_class, ap length halves, length-append front (body frame), length-body frame)
    in
    let place : k ≡ length front = omega (arith, count) in
    let within_all : k ≤ length durations =
    omega (arith, count, length-append durations (us ∷ [])) in
    let tail : drop k long ≡ drop k durations ++ us ∷ [] = drop-append-le k durations (us ∷ []) within_all in
    record {
      before = take k durations;
      most = drop k durations;
      all = take-append-drop k durations;
      last =
          ap (map nearest_class) (sym tail) ∙ sym (drop-map nearest_class k long) ∙ ap (drop k) halves
          ∙ ap (λ n. drop n (front ++ body frame)) place ∙ drop-append_seam front (body frame);
      front = take-append-le k durations (us ∷ []) within_all;
    }

pub no_cause : (durations : List ℕ) (us : ℕ) (frame : List ℕ) → EndsWithFrame (durations ++ us ∷ []) frame
    → seen (durations ++ us ∷ []) ≡ seen durations
    → (with_causes (durations ++ us ∷ []) frame).preamble ≡ None → (with_causes (durations ++ us ∷ []) frame).ones
    ≡ None
    → (with_causes (durations ++ us ∷ []) frame).zeros ≡ None → ⊥
unfolding with_causes ones_before_body ones_at_end ones_before
no_cause durations us frame ends unseen preamble one low =
    let p = parts durations us frame ends in
    let long : List ℕ = durations ++ us ∷ [] in
    let size : ℕ = 18 * length frame + 2 in
    let front : List ℕ = take (length long - size) long in
    let twenty : List ℕ = keep_last 20 front in
    let ones : ℕ = ones_at_end (map nearest_class twenty) in
    let many = short_none ones (unused_at_end front) _ preamble in
    let few : length twenty ≤ 20 = omega (arith, length-drop (length front - 20) front) in
    let all_ones = ones_all (map nearest_class twenty) (omega (arith, few, length-map twenty nearest_class))
    (omega (arith, many)) in
    let count : ones ≡ 20 = ap ones_at_end all_ones in
    let sizes : length long ≡ length front + size =
    omega (
      arith,
      ap length p.front,
      ap length p.all,
      length-append p.before p.most,
      ap length p.last,
      length-map (p.most ++ us ∷ []) nearest_class,
      length-append p.most (us ∷ []),
      length-append durations (us ∷ []),
      length-body frame,
    ) in
    let whole : long ≡ front ++ (p.most ++ us ∷ []) =
    ap (λ l. l ++ us ∷ []) (sym p.all) ∙ append_assoc p.before p.most (us ∷ [])
    ∙ ap (λ l. l ++ (p.most ++ us ∷ [])) (sym p.front) in
    let counted : keep_last (size + ones) long ≡ twenty ++ (p.most ++ us ∷ []) =
    ap (λ n. drop n long) (omega (arith, count, sizes)) ∙ ap (drop (length front - 20)) whole
    ∙ drop-append-le (length front - 20) front (p.most ++ us ∷ []) (omega arith) in
    let strict = within twenty (p.most ++ us ∷ []) frame all_ones p.last
    (ap (filter is_off_one) (sym counted) ∙ off_none _ one) (ap (filter is_off_zero) (sym counted) ∙ off_none _ low) in
    let unused = unused_twenty front (omega (arith, many)) in
    let split : take (length front - 20) front ++ twenty ≡ front = take-append-drop (length front - 20) front in
    let enough = twenty_left (take (length front - 20) front) twenty unused.0 strict.0
    (ap rest split ∙ unused.1) (rw split unused.2) in
    seen_at_end p.before p.most us unused.0 frame ends.frame_rule (ap rest (sym p.front) ∙ unused.1) enough strict.1
    (rw p.all unseen)

pub cause_law : LostPacketsHaveCauses
unfolding packet_lost
cause_law durations us packet e = elim (cases_Option (frame_lost durations us)) [
  | inl none ↦ absurd (cc (rw none at e))
  | inr (frame, found) ↦
      let is : with_causes (durations ++ us ∷ []) frame ≡ packet = some_same (rw found at e) in
      let lost = lost-is durations us frame found in
      elim (cases_Option packet.preamble) [
        | inr some ↦ inl (λ none. cc)
        | inl no_preamble ↦ elim (cases_Option packet.ones) [
          | inr some ↦ inr (inl (λ none. cc))
          | inl no_ones ↦ elim (cases_Option packet.zeros) [
            | inr some ↦ inr (inr (λ none. cc))
            | inl no_zeros ↦
                absurd (no_cause durations us frame lost.ends lost.unseen (ap (λ (l : LostPacket). l.preamble) is
                ∙ no_preamble)
                (ap (λ (l : LostPacket). l.ones) is ∙ no_ones) (ap (λ (l : LostPacket). l.zeros) is ∙ no_zeros))
          ]
        ]
      ]
]
