-- The definition of lost packets as a relation.
use Rattle.std.proofs.Common.{◌≡◌, ◌≢◌, ℕ, suc, zero, ◌+◌, ◌-◌, ◌*◌, ◌<◌, ◌≤◌, List, [], ◌∷◌, ◌++◌, length, take, drop}
use Rattle.std.proofs.Common.{map}
use Rattle.std.proofs.Common.{replicate, Option, Some, None, Bool, true, ◌&&◌, refl, sym, ap, ◌∙◌, arith, inl, inr}
use Rattle.std.proofs.Common.{append-nil, length-append, length-drop}
use Rattle.std.proofs.lemmas.Bool.{cases_lt, cases_Bool, eqb-true, eq-eqb}
use Rattle.std.proofs.lemmas.Bool.Decides.{nat_tests}
use Rattle.std.proofs.lemmas.List.{drop-map, take-append-drop, map-append, nil_from_length, length-map}
use Rattle.std.proofs.Math.Seq.{drop-append_seam}
use Rattle.std.proofs.lemmas.List.{reverse-append}
use Rattle.std.proofs.Common.{append_assoc, reverse}
use Rattle.std.specs.Option.{option_or, option_map}
use Rattle.dcc_wire.specs.declared.half.Half.{Half}
use Rattle.dcc_wire.specs.declared.half.Half.TheVariants.{One, Zero, Bad}
use Rattle.dcc_wire.specs.declared.seen.Seen.{Seen}
use Rattle.dcc_wire.specs.declared.seen.Seen.TheVariants.{Nothing, Packet, Refused}
use Rattle.dcc_wire.specs.Bodies.{body, halves_of}
use Rattle.dcc_wire.specs.Packed.{byte_bits}
use Rattle.dcc_wire.specs.Frames.{IsFrame}
use Rattle.dcc_wire.specs.Framing.{Rest, Hunting, InBody, ones_before, seen, rest, report_at}
use Rattle.dcc_wire.specs.Outcomes.{outcome_of}
use Rattle.dcc_wire.proofs.BitLemmas.{length-halves_of, halves_of-append}
use Rattle.dcc_wire.proofs.ByteBits.{cases_Option, some_same, length-body_bits, body_bits-end}
use Rattle.dcc_wire.proofs.FramingLemmas.{seen-push}
use Rattle.dcc_wire.proofs.OutcomeRows.{outcomes-rows}
use Rattle.dcc_wire.proofs.SendingLemmas.{outcome_of-body}
use Rattle.dcc_timing.specs.Numbers.{keep_last}
use Rattle.dcc_lost.specs.declared.causes.LostPacket.{LostPacket}
use Rattle.dcc_lost.specs.Nearest.{nearest_class}
use Rattle.dcc_wire.specs.Framing.{is_hunting}
use Rattle.dcc_lost.specs.Lost.{packet_of_length, frame_at_end, longest_frame_at_end, is_unheard}
use Rattle.dcc_lost.specs.Lost.{frame_lost}
use Rattle.dcc_lost.specs.Causes.{packet_lost, with_causes}
use Rattle.dcc_lost.specs.LostLaws.{EndsWithFrame, IsLost, LostPacketsAreLost, NoLostPacketIsSeen}
use Rattle.dcc_lost.proofs.FrameLemmas.{few_ones, after_ones, no_packet}

-- a frame of n bytes at the end

pub length-body : (bytes : List ℕ) → length (body bytes) ≡ 18 * length bytes + 2
unfolding body
length-body bytes = omega (arith, length-halves_of, length-body_bits bytes)

packet-some : (n : ℕ) (outcome : Option (ℕ × Seen)) (frame : List ℕ) → packet_of_length n outcome ≡ Some frame
    → (count : ℕ) × (outcome ≡ Some (count, Packet frame)) × (length frame ≡ n)
unfolding packet_of_length
packet-some n None frame e = cc
packet-some n (Some (count, Nothing)) frame e = cc
packet-some n (Some (count, Refused fault)) frame e = cc
packet-some n (Some (count, Packet bytes)) frame e = elim (cases_lt (length bytes) n) [
  | inl less ↦ absurd (grind (arith, nat_tests))
  | inr more ↦ elim (cases_lt n (length bytes)) [
    | inl less ↦ absurd (grind (arith, nat_tests))
    | inr same ↦
        let is : length bytes ≡ n = omega (arith, more, same) in
        let found : Some bytes ≡ Some frame = sym (rw (eq-eqb (length bytes) n is)) ∙ e in
        (count, rw (some_same found) refl, sym (ap length (some_same found)) ∙ is)
  ]
]

starts_zero : (n : ℕ) (halves : List Half) (frame : List ℕ) → packet_of_length n (outcome_of halves) ≡ Some frame
    → (more : List Half) × (halves ≡ Zero ∷ more)
starts_zero n (Zero ∷ more) frame e = (more, refl)
starts_zero n [] frame e = absurd (cc (no_packet n [] (λ more same. cc)))
starts_zero n (One ∷ halves) frame e = absurd (cc (no_packet n (One ∷ halves) (λ more same. cc)))
starts_zero n (Bad ∷ halves) frame e = absurd (cc (no_packet n (Bad ∷ halves) (λ more same. cc)))

-- half-bits that are a packet are the body of its frame
body_is : (n : ℕ) (halves : List Half) (frame : List ℕ) → length halves ≤ 18 * n + 2
    → packet_of_length n (outcome_of halves) ≡ Some frame → IsFrame frame × (halves ≡ body frame) × (length frame ≡ n)
body_is n halves frame few e =
    let some = packet-some n (outcome_of halves) frame e in
    let first = starts_zero n halves frame e in
    let comes = (outcomes-rows first.0 some.0 (Packet frame)).1 (ap outcome_of (sym first.1) ∙ some.1) in
    let is : halves ≡ comes.0 ++ comes.3.0 = first.1 ∙ comes.3.1 in
    let none : comes.3.0 ≡ [] =
    nil_from_length comes.3.0
    (omega (arith, few, ap length is, length-append comes.0 comes.3.0, ap length comes.1.1, length-body frame, some.2))
    in
    (comes.1.0, is ∙ rw none (append-nil comes.0) ∙ comes.1.1, some.2)

pub ones_first : (k : ℕ) (halves : List Half) → k ≤ ones_before halves → take k halves ≡ replicate k One
unfolding ones_before
ones_first zero halves few = refl
ones_first (suc k) [] few = absurd (omega arith)
ones_first (suc k) (One ∷ halves) few = ap (λ l. One ∷ l) (ones_first k halves (omega arith))
ones_first (suc k) (Zero ∷ halves) few = absurd (omega arith)
ones_first (suc k) (Bad ∷ halves) few = absurd (omega arith)

pub ends_with : (n : ℕ) (durations frame : List ℕ) → frame_at_end n durations ≡ Some frame
    → EndsWithFrame durations frame × (length frame ≡ n)
unfolding frame_at_end
ends_with n durations frame e =
    let start : ℕ = length durations - (18 * n + 10) in
    let last : List ℕ = keep_last (18 * n + 10) durations in
    elim (cases_lt (ones_before (map nearest_class last)) 8) [
      | inl few ↦ absurd (cc (few_ones n last few))
      | inr enough ↦
          let found = body_is n (map nearest_class (drop 8 last)) frame
          (omega (arith, length-map (drop 8 last) nearest_class, length-drop 8 last, length-drop start durations))
          (after_ones n last enough ∙ e) in
          let eight = ones_first 8 (map nearest_class last) enough in
          let halves : map nearest_class last ≡ replicate 8 One ++ body frame =
          sym (take-append-drop 8 (map nearest_class last))
          ∙ ap (λ l. l ++ drop 8 (map nearest_class last)) eight
          ∙ ap (λ l. replicate 8 One ++ l) (drop-map nearest_class 8 last ∙ found.1) in (
            record {
              frame_rule = found.0;
              before = map nearest_class (take start durations);
              halves =
                  ap (map nearest_class) (sym (take-append-drop start durations))
                  ∙ map-append nearest_class (take start durations) (drop start durations)
                  ∙ ap (λ l. map nearest_class (take start durations) ++ l) halves;
            },
            found.2,
          )
    ]

pub at_end : (durations frame : List ℕ) → EndsWithFrame durations frame
    → frame_at_end (length frame) durations ≡ Some frame
unfolding frame_at_end packet_of_length ones_before
at_end durations frame ends =
    let n : ℕ = length frame in
    let tail : List Half = replicate 8 One ++ body frame in
    let count : length durations ≡ length ends.before + (18 * n + 10) =
    omega (
      arith,
      length-map durations nearest_class,
      ap length ends.halves,
      length-append ends.before tail,
      length-append (replicate 8 One) (body frame),
      length-body frame,
    ) in
    let start : length durations - (18 * n + 10) ≡ length ends.before = omega (arith, count) in
    let last : map nearest_class (keep_last (18 * n + 10) durations) ≡ tail =
    sym (drop-map nearest_class (length durations - (18 * n + 10)) durations)
    ∙ ap (λ k. drop k (map nearest_class durations)) start ∙ ap (drop (length ends.before)) ends.halves
    ∙ drop-append_seam ends.before tail in
    let enough : 8 ≤ ones_before (map nearest_class (keep_last (18 * n + 10) durations)) = rw last (omega arith) in
    sym (after_ones n (keep_last (18 * n + 10) durations) enough)
    ∙ ap (λ l. packet_of_length n (outcome_of l)) (sym (drop-map nearest_class 8 (keep_last (18 * n + 10) durations))
    ∙ ap (drop 8) last)
    ∙ ap (packet_of_length n) (outcome_of-body frame ends.frame_rule) ∙ rw (eq-eqb n n refl)

-- the longest of four

abbrev longest_of : (ℕ → Option (List ℕ)) → Option (List ℕ)
longest_of at = option_or (at 6) (option_or (at 5) (option_or (at 4) (at 3)))

record IsPicked (at : ℕ → Option (List ℕ)) (frame : List ℕ) : Type 0 where
  n : ℕ
  least : 3 ≤ n
  most : n ≤ 6
  is : at n ≡ Some frame
  longer : (m : ℕ) → n < m → m ≤ 6 → at m ≡ None

above_5 : (at : ℕ → Option (List ℕ)) → at 6 ≡ None → (m : ℕ) → 5 < m → m ≤ 6 → at m ≡ None
above_5 at six m more few = let e : m ≡ 6 = omega arith in rw e six

above_4 : (at : ℕ → Option (List ℕ)) → at 6 ≡ None → at 5 ≡ None → (m : ℕ) → 4 < m → m ≤ 6 → at m ≡ None
above_4 at six five m more few = elim (cases_lt 5 m) [
  | inl above ↦ above_5 at six m above few
  | inr under ↦ let e : m ≡ 5 = omega arith in rw e five
]

above_3 : (at : ℕ → Option (List ℕ)) → at 6 ≡ None → at 5 ≡ None → at 4 ≡ None → (m : ℕ) → 3 < m → m ≤ 6 → at m ≡ None
above_3 at six five four m more few = elim (cases_lt 4 m) [
  | inl above ↦ above_4 at six five m above few
  | inr under ↦ let e : m ≡ 4 = omega arith in rw e four
]

picked : (at : ℕ → Option (List ℕ)) (frame : List ℕ) → longest_of at ≡ Some frame → IsPicked at frame
picked at frame e = elim (cases_Option (at 6)) [
  | inr six ↦ record {
    n = 6;
    least = omega arith;
    most = omega arith;
    is = six.1 ∙ rw six.1 at e;
    longer = λ m more few. absurd (omega arith);
  }
  | inl six ↦ elim (cases_Option (at 5)) [
    | inr five ↦ record {
      n = 5;
      least = omega arith;
      most = omega arith;
      is = five.1 ∙ rw (six, five.1) at e;
      longer = above_5 at six;
    }
    | inl five ↦ elim (cases_Option (at 4)) [
      | inr four ↦ record {
        n = 4;
        least = omega arith;
        most = omega arith;
        is = four.1 ∙ rw (six, five, four.1) at e;
        longer = above_4 at six five;
      }
      | inl four ↦ record {
        n = 3;
        least = omega arith;
        most = omega arith;
        is = rw (six, five, four) at e;
        longer = above_3 at six five four;
      }
    ]
  ]
]

pick : (at : ℕ → Option (List ℕ)) (frame : List ℕ) → IsPicked at frame → longest_of at ≡ Some frame
pick at frame p = elim (cases_lt 5 p.n) [
  | inl above_five ↦ let e : 6 ≡ p.n = omega (arith, p.most, above_five) in rw (ap at e ∙ p.is)
  | inr five ↦
      let six = p.longer 6 (omega (arith, five)) (omega arith) in
      elim (cases_lt 4 p.n) [
        | inl above_four ↦ let e : 5 ≡ p.n = omega (arith, five, above_four) in rw (six, ap at e ∙ p.is)
        | inr four ↦
            let no_five = p.longer 5 (omega (arith, four)) (omega arith) in
            elim (cases_lt 3 p.n) [
              | inl above_three ↦ let e : 4 ≡ p.n =
                  omega (arith, four, above_three) in rw (six, no_five, ap at e ∙ p.is)
              | inr three ↦
                  let no_four = p.longer 4 (omega (arith, three)) (omega arith) in
                  let e : 3 ≡ p.n = omega (arith, three, p.least) in
                  rw (six, no_five, no_four) (ap at e ∙ p.is)
            ]
      ]
]

pub record IsLongest (durations frame : List ℕ) : Type 0 where
  pub ends : EndsWithFrame durations frame
  pub longest : (other : List ℕ) → EndsWithFrame durations other → length other ≤ length frame

no_longer : (n : ℕ) (durations other : List ℕ) → ((m : ℕ) → n < m → m ≤ 6 → frame_at_end m durations ≡ None)
    → EndsWithFrame durations other → length other ≤ n
no_longer n durations other none ends = elim (cases_lt n (length other)) [
  | inr few ↦ few
  | inl longer ↦ absurd (cc (none (length other) longer ends.frame_rule.most, at_end durations other ends))
]

pub longest-is : (durations frame : List ℕ) → longest_frame_at_end durations ≡ Some frame → IsLongest durations frame
unfolding longest_frame_at_end
longest-is durations frame e =
    let p = picked (λ n. frame_at_end n durations) frame e in
    let ends = ends_with p.n durations frame p.is in
    record {
      ends = ends.0;
      longest = λ other others.
          let few : length other ≤ p.n = no_longer p.n durations other p.longer others in omega (arith, few, ends.1);
    }

none_longer : (durations frame : List ℕ) → IsLongest durations frame → (m : ℕ) → length frame < m
    → frame_at_end m durations ≡ None
none_longer durations frame is m longer = elim (cases_Option (frame_at_end m durations)) [
  | inl none ↦ none
  | inr some ↦
      let other = ends_with m durations some.0 some.1 in
      absurd (omega (arith, is.longest some.0 other.0, other.1, longer))
]

is-longest : (durations frame : List ℕ) → IsLongest durations frame → longest_frame_at_end durations ≡ Some frame
unfolding longest_frame_at_end
is-longest durations frame is =
    pick (λ n. frame_at_end n durations) frame (record {
      n = length frame;
      least = is.ends.frame_rule.least;
      most = is.ends.frame_rule.most;
      is = at_end durations frame is.ends;
      longer = λ m more few. none_longer durations frame is m more;
    })

-- a half-bit that is not heard

report_alike : (so_far : List (ℕ × Seen)) (place : ℕ) (answer : Seen)
    → length (so_far ++ report_at place answer) ≡ length so_far → so_far ++ report_at place answer ≡ so_far
unfolding report_at
report_alike so_far place Nothing e = append-nil so_far
report_alike so_far place (Packet bytes) e =
    absurd (omega (arith, e, length-append so_far ((place, Packet bytes) ∷ [])))
report_alike so_far place (Refused fault) e =
    absurd (omega (arith, e, length-append so_far ((place, Refused fault) ∷ [])))

both : (a b : Bool) → (a && b) ≡ true → (a ≡ true) × (b ≡ true)
both a b e = grind arith

pub hunting-open : (framer : Rest) → is_hunting framer ≡ true → (halves : List Half) → framer ≢ InBody halves
hunting-open (Hunting ones) e halves same = cc
hunting-open (InBody body) e halves same = cc

open-hunting : (framer : Rest) → ((halves : List Half) → framer ≢ InBody halves) → is_hunting framer ≡ true
open-hunting (Hunting ones) never = refl
open-hunting (InBody body) never = absurd (never body refl)

record IsUnheard (durations : List ℕ) (us : ℕ) : Type 0 where
  unseen : seen (durations ++ us ∷ []) ≡ seen durations
  between_bodies : (halves : List Half) → rest (durations ++ us ∷ []) ≢ InBody halves

unheard-is : (durations : List ℕ) (us : ℕ) → is_unheard durations us ≡ true → IsUnheard durations us
unfolding is_unheard
unheard-is durations us e =
    let parts = both _ _ e in
    let count = eqb-true (length (seen (durations ++ us ∷ []))) (length (seen durations)) parts.0 in
    let more = seen-push durations us in
    record {
      unseen = more ∙ report_alike (seen durations) (length durations) _ (sym (ap length more) ∙ count);
      between_bodies = hunting-open (rest (durations ++ us ∷ [])) parts.1;
    }

is-unheard : (durations : List ℕ) (us : ℕ) → IsUnheard durations us → is_unheard durations us ≡ true
unfolding is_unheard
is-unheard durations us is =
    rw (eq-eqb (length (seen (durations ++ us ∷ []))) (length (seen durations)) (ap length is.unseen))
    (open-hunting (rest (durations ++ us ∷ [])) is.between_bodies)

pub lost-is : (durations : List ℕ) (us : ℕ) (frame : List ℕ) → frame_lost durations us ≡ Some frame
    → IsLost durations us frame
unfolding frame_lost
lost-is durations us frame e = elim (cases_Bool (is_unheard durations us)) [
  | inr heard ↦ absurd (cc (rw heard at e))
  | inl told ↦
      let unheard = unheard-is durations us told in
      let longest = longest-is (durations ++ us ∷ []) frame (rw told at e) in record {
        ends = longest.ends;
        longest = longest.longest;
        unseen = unheard.unseen;
        between_bodies = unheard.between_bodies;
      }
]

is-lost : (durations : List ℕ) (us : ℕ) (frame : List ℕ) → IsLost durations us frame
    → frame_lost durations us ≡ Some frame
unfolding frame_lost
is-lost durations us frame is =
    rw (is-unheard durations us (record { unseen = is.unseen; between_bodies = is.between_bodies }))
    (is-longest (durations ++ us ∷ []) frame (record { ends = is.ends; longest = is.longest }))

causes-frame : (durations : List ℕ) (us : ℕ) (frame : List ℕ) (lost : Option (List ℕ))
    → option_map (with_causes (durations ++ us ∷ [])) lost ≡ Some (with_causes (durations ++ us ∷ []) frame)
    → lost ≡ Some frame
unfolding with_causes
causes-frame durations us frame None e = cc
causes-frame durations us frame (Some other) e = ap Some (ap (λ (packet : LostPacket). packet.frame) (some_same e))

pub lost_law : LostPacketsAreLost
unfolding packet_lost
lost_law durations us frame = (
  λ e. lost-is durations us frame (causes-frame durations us frame (frame_lost durations us) e),
  λ is. rw (is-lost durations us frame is),
)

pub unseen_law : NoLostPacketIsSeen
unfolding packet_lost
unseen_law durations us some = elim (cases_Option (frame_lost durations us)) [
  | inl none ↦ absurd (some (rw none))
  | inr frame ↦ (lost-is durations us frame.0 frame.1).unseen
]

-- the last half-bit of a lost packet is half of a one

body_ends : (bytes : List ℕ) → (front : List Half) × (body bytes ≡ front ++ One ∷ [])
unfolding body halves_of
body_ends bytes = (
  halves_of (byte_bits bytes) ++ One ∷ [],
  ap halves_of (body_bits-end bytes) ∙ halves_of-append (byte_bits bytes) (true ∷ [])
      ∙ sym (append_assoc (halves_of (byte_bits bytes)) (One ∷ []) (One ∷ [])),
)

last_half_same : (xs ys : List Half) (x y : Half) → xs ++ x ∷ [] ≡ ys ++ y ∷ [] → x ≡ y
last_half_same xs ys x y e =
    let turned : x ∷ reverse xs ≡ y ∷ reverse ys =
    sym (reverse-append xs (x ∷ [])) ∙ ap reverse e ∙ reverse-append ys (y ∷ []) in cc

pub last_is_one : (durations : List ℕ) (us : ℕ) (frame : List ℕ) → EndsWithFrame (durations ++ us ∷ []) frame
    → nearest_class us ≡ One
last_is_one durations us frame ends =
    let end = body_ends frame in
    let front : List Half = replicate 8 One ++ end.0 in
    last_half_same (map nearest_class durations) (ends.before ++ front) (nearest_class us) One
    (sym (map-append nearest_class durations (us ∷ [])) ∙ ends.halves
    ∙ ap (λ l. ends.before ++ (replicate 8 One ++ l)) end.1
    ∙ ap (λ l. ends.before ++ l) (sym (append_assoc (replicate 8 One) end.0 (One ∷ [])))
    ∙ sym (append_assoc ends.before front (One ∷ [])))

pub frame_other : (durations : List ℕ) (us : ℕ) → nearest_class us ≢ One → None ≡ frame_lost durations us
frame_other durations us other = elim (cases_Option (frame_lost durations us)) [
  | inl none ↦ rw none refl
  | inr some ↦ absurd (other (last_is_one durations us some.0 (lost-is durations us some.0 some.1).ends))
]
