-- Packets after noise.
use Rattle.std.proofs.Common.{◌≡◌, ℕ, suc, zero, ◌+◌, ◌-◌, ◌*◌, ◌<◌, ◌≤◌, ◌⊎◌, inl, inr, Bool, true, false, List, []}
use Rattle.std.proofs.Common.{◌∷◌, ◌++◌, length, length-append, replicate, Some, None, refl, sym, ap, ◌∙◌, arith, drop}
use Rattle.std.proofs.Common.{append_assoc, append-nil, map, min, subst}
use Rattle.std.proofs.Math.ListN.{length-replicate}
use Rattle.std.proofs.lemmas.Bool.{cases_lt}
use Rattle.std.proofs.lemmas.Bool.Decides.{nat_tests}
use Rattle.std.proofs.lemmas.List.Elements.{Contains-append_left, Contains-append_right}
use Rattle.std.specs.List.{Contains}
use Rattle.dcc_wire.specs.declared.half.Half.{Half}
use Rattle.dcc_wire.specs.declared.half.Half.TheVariants.{One, Zero, Bad}
use Rattle.dcc_wire.specs.declared.seen.Seen.{Seen}
use Rattle.dcc_wire.specs.declared.seen.Seen.TheVariants.{Packet, Refused}
use Rattle.dcc_wire.specs.declared.seen.Fault.TheVariants.{SplitBit}
use Rattle.dcc_wire.specs.declared.timing.Timing.{Timing}
use Rattle.dcc_wire.specs.Bodies.{bits_of, body_bits, halves_of}
use Rattle.dcc_wire.specs.Framing.{Rest, Hunting, InBody, rest, seen, report_at, rest_at, hunting, starts}
use Rattle.dcc_wire.specs.Half.{class_of}
use Rattle.dcc_wire.specs.Inner.Steps.{rest_after, answer_to, answer_of, left_of}
use Rattle.dcc_wire.specs.Outcomes.{bytes_in, ones_left, bits_in, by_halves, outcome_of}
use Rattle.dcc_wire.specs.Recovery.{ended_by_ones, open_end, at_open_end, at_first}
use Rattle.dcc_wire.specs.Recovery.{NoiseCostsNoLaterPacket, NoiseCostsAtMostTheFirst, OpenBodiesEndSoon}
use Rattle.dcc_wire.specs.Recovery.{NoiseBetweenBodiesCostsNothing, LongPreamblesLoseNothing, OneOfThreeCopiesIsSeen}
use Rattle.dcc_wire.specs.Recovery.{OneOfThreeCopiesIsSeenAfterNoise}
use Rattle.dcc_wire.specs.Runs.{ones_after}
use Rattle.dcc_wire.specs.Frames.{IsFrame}
use Rattle.dcc_wire.specs.Sending.{durations_of, sent, Sent, sent_all, at_last_halves, AllFrames}
use Rattle.dcc_wire.specs.Inner.OutcomeParts.{behind_bits, by_bits}
use Rattle.dcc_wire.proofs.BitLemmas.{halves_split, halves_of-append, length-halves_of}
use Rattle.dcc_wire.proofs.ByteBits.{cases_Option, some_same, nine_ones, length-bits_of}
use Rattle.dcc_wire.proofs.FramingLemmas.{rest-push, seen-push, reported_something}
use Rattle.dcc_wire.proofs.OutcomeLemmas.{outcome_of-push, outcome_of-more, outcome_of-long, outcome_of-bits}
use Rattle.dcc_wire.proofs.OutcomeLemmas.{outcome_behind, outcome_parts, ones_left-closed, open_parts}
use Rattle.dcc_wire.proofs.RunLemmas.{skips, ones_after_one, replicate_more, run_on}
use Rattle.dcc_wire.proofs.SendingLemmas.{classes, body_delivered, packets_delivered, sent-parts}
use Rattle.dcc_wire.proofs.SendingLemmas.{durations_of-append, sent_delivered, seen-sent_all}
use Rattle.dcc_wire.proofs.SeenLemmas.{seen-grows}

-- what a list of half-bits leaves

state_at : (all : List Half) (places : List ℕ) (halves : List Half) → rest_at all places ≡ InBody halves
    → outcome_of halves ≡ None
unfolding rest_at hunting
state_at all [] halves e = cc
state_at all (start ∷ earlier) halves e = elim (cases_Option (outcome_of (drop start all))) [
  | inl none ↦ let inside = rw none at e in cc
  | inr some ↦ let hunts = rw some.1 at e in cc
]

-- an unfinished body has no outcome
unfinished_rest : (durations : List ℕ) (halves : List Half) → rest durations ≡ InBody halves → outcome_of halves ≡ None
unfolding rest
unfinished_rest durations halves e = state_at (map class_of durations) (starts (map class_of durations)) halves e

few_at : (all : List Half) (places : List ℕ) (ones : ℕ) → rest_at all places ≡ Hunting ones → ones ≤ 20
unfolding rest_at hunting
few_at all [] ones e = grind arith
few_at all (start ∷ earlier) ones e = elim (cases_Option (outcome_of (drop start all))) [
  | inl none ↦ let inside = rw none at e in cc
  | inr some ↦ let hunts = rw some.1 at e in grind arith
]

few_ones : (durations : List ℕ) (ones : ℕ) → rest durations ≡ Hunting ones → ones ≤ 20
unfolding rest
few_ones durations ones e = few_at (map class_of durations) (starts (map class_of durations)) ones e

-- half-bits of ones end an unfinished body

record Ended (durations : List ℕ) (us n : ℕ) (outcome : Seen) : Type 0 where
  some : 1 ≤ n
  open_part : rest (durations ++ replicate n us) ≡ Hunting (ones_left outcome)
  outcomes : seen (durations ++ replicate n us) ≡ seen durations ++ (length durations + n - 1, outcome) ∷ []

ends : (n us : ℕ) (durations : List ℕ) (halves : List Half) (p : ℕ × Seen) → class_of us ≡ One
    → rest durations ≡ InBody halves → outcome_of (halves ++ replicate n One) ≡ Some p
    → Ended durations us (p.0 - length halves) p.1
unfolding rest_after left_of answer_to answer_of report_at
ends zero us durations halves p one inside e =
    let none = unfinished_rest durations halves inside in
    let some = rw append-nil at e in
    cc
ends (suc n) us durations halves p one inside e =
    let all : (halves ++ One ∷ []) ++ replicate n One ≡ halves ++ replicate (suc n) One =
    append_assoc halves (One ∷ []) (replicate n One) in
    let long : length (halves ++ One ∷ []) ≡ length halves + 1 = length-append halves (One ∷ []) in
    elim (outcome_of-push halves One (unfinished_rest durations halves inside)) [
      | inl none ↦
          let next : rest (durations ++ us ∷ []) ≡ InBody (halves ++ One ∷ []) =
          rest-push durations us ∙ rw (inside, one, none) refl in
          let shows : seen (durations ++ us ∷ []) ≡ seen durations =
          seen-push durations us ∙ rw (inside, one, none) (append-nil (seen durations)) in
          let ih = ends n us (durations ++ us ∷ []) (halves ++ One ∷ []) p one next (ap outcome_of all ∙ e) in
          let k : p.0 - length halves ≡ suc (p.0 - length (halves ++ One ∷ [])) = omega (arith, ih.some, long) in
          let place : length (durations ++ us ∷ []) + (p.0 - length (halves ++ One ∷ [])) - 1
          ≡ length durations + suc (p.0 - length (halves ++ One ∷ [])) - 1 =
          omega (arith, length-append durations (us ∷ [])) in
          rw k (record {
            some = omega arith;
            open_part = rw replicate_more ih.open_part;
            outcomes = rw replicate_more (ih.outcomes ∙ rw (shows, place));
          })
      | inr end ↦
          let same : p ≡ (length halves + 1, end.outcome) =
          some_same
          (sym e ∙ ap outcome_of (sym all) ∙ outcome_of-more (halves ++ One ∷ []) (replicate n One) _ end.is) in
          let k : length halves + 1 - length halves ≡ 1 = omega arith in
          let place : length durations + 1 - 1 ≡ length durations = omega arith in
          rw (same, k) (record {
            some = omega arith;
            open_part = rest-push durations us ∙ rw (inside, one, end.is);
            outcomes = seen-push durations us
                ∙ rw (inside, one, end.is, place, reported_something (length durations) end.outcome end.something);
          })
    ]

-- 18 half-bits of ones end each unfinished body: at the next half-bit, or with an end bit, whose ones count

record End (halves : List Half) : Type 0 where
  p : ℕ × Seen
  is : outcome_of (halves ++ replicate 18 One) ≡ Some p
  left : (ones_left p.1 ≡ 2) ⊎ ((ones_left p.1 ≡ 0) × (p.0 ≡ length halves + 1))

-- nine ones, in half-bits
ones_end : (bits : List Bool) (tail : List Half) → bytes_in 6 bits ≡ None
    → (p : ℕ × Seen) × (outcome_of (halves_of bits ++ (replicate 18 One ++ tail)) ≡ Some p) × (ones_left p.1 ≡ 2)
unfolding by_bits halves_of
ones_end bits tail none =
    let nine = nine_ones 6 bits none in
    let whole : halves_of bits ++ (replicate 18 One ++ tail) ≡ halves_of (bits ++ replicate 9 true) ++ tail =
    rw halves_of-append (sym (append_assoc (halves_of bits) (replicate 18 One) tail)) in
    let is : outcome_of (halves_of (bits ++ replicate 9 true)) ≡ Some (by_bits (nine.0, true)) =
    outcome_of-bits (bits ++ replicate 9 true) ∙ rw nine.1 in (
      by_bits (nine.0, true),
      ap outcome_of whole ∙ outcome_of-more (halves_of (bits ++ replicate 9 true)) tail _ is,
      ones_left-closed nine.0,
    )

end_by : (bits : List Bool) (tail : List Half) → bytes_in 6 bits ≡ None → bits_in tail ≡ []
    → by_halves (2 * length bits) tail ≡ None → End (halves_of bits ++ tail)
unfolding bits_in behind_bits by_halves ones_left
end_by bits [] none e n =
    let w = ones_end bits [] none in
    record { p = w.0; is = rw append-nil (rw append-nil at w.1); left = inl w.2 }
end_by bits (One ∷ []) none e n =
    let w = ones_end bits (One ∷ []) none in record { p = w.0; is = rw append_assoc w.1; left = inl w.2 }
end_by bits (Zero ∷ []) none e n =
    record {
      p = (2 * length bits + 2, Refused SplitBit);
      is = rw append_assoc (outcome_behind bits (Zero ∷ replicate 18 One) none refl refl);
      left = inr (refl, omega (arith, length-append (halves_of bits) (Zero ∷ []), length-halves_of bits));
    }
end_by bits (Bad ∷ tail) none e n = cc
end_by bits (One ∷ One ∷ tail) none e n = cc
end_by bits (Zero ∷ Zero ∷ tail) none e n = cc
end_by bits tail none e n = cc

end_of : (halves : List Half) → outcome_of halves ≡ None → End halves
end_of halves e =
    let parts = open_parts (bytes_in 6 (bits_in halves)) _ (sym (outcome_parts halves) ∙ e) in
    subst End (halves_split halves).0
    (end_by (bits_in halves) (behind_bits halves) parts.0 (halves_split halves).1 parts.1)

-- a body without a preamble before it shows nothing

record Passed (durations longer : List ℕ) (most : ℕ) : Type 0 where
  ones : ℕ
  few : ones ≤ most
  open_part : rest longer ≡ Hunting ones
  outcomes : seen longer ≡ seen durations

pass_on : (durations front back : List ℕ) {most : ℕ} → seen (durations ++ front) ≡ seen durations
    → Passed (durations ++ front) ((durations ++ front) ++ back) most
    → Passed durations (durations ++ (front ++ back)) most
pass_on durations front back same w =
    rw (← append_assoc durations front back)
    (record { ones = w.ones; few = w.few; open_part = w.open_part; outcomes = w.outcomes ∙ same })

-- the half-bits of a bit
module _ (timing : Timing) (durations : List ℕ) (ones : ℕ) (hunts : rest durations ≡ Hunting ones) where
  one_passes : Passed durations (durations ++ timing.one ∷ timing.one ∷ []) (ones + 2)
  one_passes =
      let c = classes timing in
      let w = skips 2 timing.one durations ones (rw c.one tt) hunts in
      record {
        ones = min 20 (ones + 2);
        few = omega arith;
        open_part = w.open_part ∙ rw c.one (ap Hunting (ones_after_one ones 2 (omega arith)));
        outcomes = w.outcomes;
      }

  zero_passes : ones < 20 → Passed durations (durations ++ timing.zero_first ∷ timing.zero_second ∷ []) 0
  unfolding ones_after
  zero_passes few =
      let c = classes timing in
      let first = skips 1 timing.zero_first durations ones (rw c.first few) hunts in
      let next : rest (durations ++ timing.zero_first ∷ []) ≡ Hunting 0 = first.open_part ∙ rw c.first in
      let second = skips 1 timing.zero_second (durations ++ timing.zero_first ∷ []) 0
      (rw c.second (omega arith)) next in
      pass_on durations (timing.zero_first ∷ []) (timing.zero_second ∷ []) first.outcomes (record {
        ones = 0;
        few = omega arith;
        open_part = second.open_part ∙ rw c.second;
        outcomes = second.outcomes;
      })

-- few bits
bits_pass : (timing : Timing) (bits : List Bool) (durations : List ℕ) (ones : ℕ) → ones + 2 * length bits ≤ 20
    → rest durations ≡ Hunting ones → Passed durations (durations ++ durations_of timing bits) (ones + 2 * length bits)
unfolding durations_of
bits_pass timing [] durations ones few hunts =
    record { ones = ones; few = omega arith; open_part = rw append-nil hunts; outcomes = rw append-nil }
bits_pass timing (true ∷ bits) durations ones few hunts =
    let front : List ℕ = timing.one ∷ timing.one ∷ [] in
    let w = one_passes timing durations ones hunts in
    let ih = bits_pass timing bits (durations ++ front) w.ones (omega (arith, w.few)) w.open_part in
    pass_on durations front (durations_of timing bits) w.outcomes (record {
      ones = ih.ones;
      few = omega (arith, ih.few, w.few);
      open_part = ih.open_part;
      outcomes = ih.outcomes;
    })
bits_pass timing (false ∷ bits) durations ones few hunts =
    let front : List ℕ = timing.zero_first ∷ timing.zero_second ∷ [] in
    let w = zero_passes timing durations ones hunts (omega arith) in
    let ih = bits_pass timing bits (durations ++ front) w.ones (omega (arith, w.few)) w.open_part in
    pass_on durations front (durations_of timing bits) w.outcomes (record {
      ones = ih.ones;
      few = omega (arith, ih.few, w.few);
      open_part = ih.open_part;
      outcomes = ih.outcomes;
    })

-- each byte has a zero before it, so no 20 half-bits of ones come before a zero
body_passes : (timing : Timing) (bytes : List ℕ) (durations : List ℕ) (ones : ℕ) → ones < 20
    → (bytes ≡ [] → ones ≤ 18) → rest durations ≡ Hunting ones
    → Passed durations (durations ++ durations_of timing (body_bits bytes)) 20
unfolding durations_of body_bits
body_passes timing [] durations ones few last hunts =
    let w = bits_pass timing (true ∷ []) durations ones (omega (arith, last refl)) hunts in record {
      ones = w.ones;
      few = omega (arith, w.few, last refl);
      open_part = w.open_part;
      outcomes = w.outcomes;
    }
body_passes timing (byte ∷ bytes) durations ones few last hunts =
    let front : List ℕ = timing.zero_first ∷ timing.zero_second ∷ [] in
    let byte_halves : List ℕ = durations_of timing (bits_of 8 byte) in
    let long = length-bits_of 8 byte in
    let zero = zero_passes timing durations ones hunts few in
    let eight = bits_pass timing (bits_of 8 byte) (durations ++ front) zero.ones
    (omega (arith, zero.few, long)) zero.open_part in
    let ih = body_passes timing bytes ((durations ++ front) ++ byte_halves) eight.ones
    (omega (arith, eight.few, zero.few, long)) (λ _. omega (arith, eight.few, zero.few, long)) eight.open_part in
    rw durations_of-append (pass_on durations front (byte_halves ++ durations_of timing (body_bits bytes)) zero.outcomes
    (pass_on (durations ++ front) byte_halves (durations_of timing (body_bits bytes)) eight.outcomes ih))

-- the first packet

pub record First (noise : List ℕ) (first : Sent) : Type 0 where
  pub ones : ℕ
  pub few : ones ≤ 20
  pub open_part : rest (noise ++ sent first.bytes first.timing) ≡ Hunting ones
  pub outcomes : seen (noise ++ sent first.bytes first.timing)
      ≡ seen noise ++ at_open_end (length noise) (open_end noise)
      ++ at_first (length noise) (open_end noise) first

module _ (place : ℕ) (p : ℕ × Seen) (first : Sent) where
  at_first-lost : 2 * first.timing.preamble < p.0 + 18 → at_first place (Some p) first ≡ []
  unfolding at_first
  at_first-lost late = grind (arith, nat_tests)

  at_first-heard : p.0 + 18 ≤ 2 * first.timing.preamble
      → at_first place (Some p) first ≡ at_last_halves place (first ∷ [])
  unfolding at_first
  at_first-heard early = grind (arith, nat_tests)

-- it is seen if no body is unfinished
first_quiet : (noise : List ℕ) (first : Sent) (ones : ℕ) → IsFrame first.bytes → rest noise ≡ Hunting ones
    → First noise first
unfolding ended_by_ones at_open_end at_first at_last_halves
first_quiet noise first ones frame hunts =
    let halves : List ℕ = sent first.bytes first.timing in
    let w = sent_delivered noise first.bytes first.timing ones frame (few_ones noise ones hunts) hunts in record {
      ones = 2;
      few = omega arith;
      open_part = w.open_part;
      outcomes = w.outcomes ∙ rw (hunts, length-append noise halves, append-nil (seen noise));
    }

-- a body that is unfinished
module _ (noise : List ℕ) (halves : List Half) (inside : rest noise ≡ InBody halves) where
  abbrev end : End halves
  end = end_of halves (unfinished_rest noise halves inside)

  abbrev n : ℕ
  n = end.p.0 - length halves

  end_is : open_end noise ≡ Some (n, end.p.1)
  unfolding ended_by_ones
  end_is = rw (inside, end.is)

  ended : (us : ℕ) → class_of us ≡ One → Ended noise us n end.p.1
  ended us one = ends 18 us noise halves end.p one inside end.is

  soon_ended : n ≤ 18
  soon_ended =
      omega (
        arith,
        outcome_of-long (halves ++ replicate 18 One) end.p end.is,
        length-append halves (replicate 18 One),
        length-replicate 18 One,
      )

module _ (noise : List ℕ) (halves : List Half) (inside : rest noise ≡ InBody halves) (first : Sent)
    (frame : IsFrame first.bytes) where
  abbrev one : ℕ
  one = first.timing.one

  abbrev preamble : ℕ
  preamble = 2 * first.timing.preamble

  abbrev body_halves : List ℕ
  body_halves = durations_of first.timing (body_bits first.bytes)

  abbrev start : List ℕ
  start = noise ++ replicate preamble one

  abbrev at : ℕ
  at = n noise halves inside

  abbrev outcome : Seen
  outcome = (end noise halves inside).p.1

  record Start : Type 0 where
    open_part : rest start ≡ Hunting (min 20 (ones_left outcome + (preamble - at)))
    outcomes : seen start ≡ seen noise ++ (length noise + at - 1, outcome) ∷ []

  started : Start
  started =
      let c = classes first.timing in
      let cut = ended noise halves inside one c.one in
      let within : at ≤ preamble = omega (arith, soon_ended noise halves inside, c.preamble) in
      let some : 0 < preamble - at = omega (arith, soon_ended noise halves inside, c.preamble) in
      let counted = skips (preamble - at) one (noise ++ replicate at one) (ones_left outcome)
      (rw c.one tt) cut.open_part in
      let whole = run_on noise one at preamble within in record {
        open_part = rw (← whole)
            (counted.open_part ∙ rw c.one (ap Hunting (ones_after_one (ones_left outcome) (preamble - at) some)));
        outcomes = rw (← whole) (counted.outcomes ∙ cut.outcomes);
      }

  all : noise ++ sent first.bytes first.timing ≡ start ++ body_halves
  all = rw (sent-parts first.bytes first.timing) (sym (append_assoc noise (replicate preamble one) body_halves))

  -- too few ones of its preamble are left
  lost : preamble < at + 18 → First noise first
  unfolding at_open_end
  lost late =
      let c = classes first.timing in
      let two : ones_left outcome ≡ 2 = elim (end noise halves inside).left [
        | inl two ↦ two
        | inr (none, next) ↦ absurd (omega (arith, next, late, c.preamble))
      ] in
      let count : min 20 (ones_left outcome + (preamble - at)) ≡ 2 + (preamble - at) = omega (arith, two, late) in
      let few : 2 + (preamble - at) < 20 = omega (arith, late) in
      let w = body_passes first.timing first.bytes start (2 + (preamble - at)) few
      (λ none. absurd (omega (arith, frame.least, ap length none))) (started.open_part ∙ ap Hunting count) in
      let none = at_first-lost (length noise) (at, outcome) first late in
      record {
        ones = w.ones;
        few = w.few;
        open_part = rw all w.open_part;
        outcomes = rw (all, end_is noise halves inside, none, append-nil) (w.outcomes ∙ started.outcomes);
      }

  -- enough ones of its preamble are left
  heard : at + 18 ≤ preamble → First noise first
  unfolding at_open_end at_last_halves
  heard early =
      let c = classes first.timing in
      let many : 20 ≤ ones_left outcome + (preamble - at) = elim (end noise halves inside).left [
        | inl two ↦ omega (arith, two, early)
        | inr (none, next) ↦ omega (arith, none, next, c.preamble)
      ] in
      let twenty : min 20 (ones_left outcome + (preamble - at)) ≡ 20 = omega (arith, many) in
      let w = body_delivered start first.bytes first.timing frame (started.open_part ∙ ap Hunting twenty) in
      let own = at_first-heard (length noise) (at, outcome) first early in
      let place : length (start ++ body_halves) ≡ length noise + length (sent first.bytes first.timing) =
      ap length (sym all) ∙ length-append noise (sent first.bytes first.timing) in
      record {
        ones = 2;
        few = omega arith;
        open_part = rw all w.open_part;
        outcomes = rw (end_is noise halves inside, own, all) (w.outcomes ∙ rw (started.outcomes, place));
      }

  first_cut : First noise first
  first_cut = elim (cases_lt preamble (at + 18)) [ inl late ↦ lost late | inr early ↦ heard early ]

-- each list of half-bits
pub first_after : (noise : List ℕ) (first : Sent) → IsFrame first.bytes → First noise first
first_after noise first frame = by_rest (rest noise) refl
  where
    by_rest : (state : Rest) → rest noise ≡ state → First noise first
    by_rest (Hunting ones) hunts = first_quiet noise first ones frame hunts
    by_rest (InBody halves) inside = first_cut noise halves inside first frame

-- the theorems

pub others_seen : NoiseCostsNoLaterPacket
unfolding AllFrames sent_all
others_seen noise first others frames =
    let halves : List ℕ = sent first.bytes first.timing in
    let w = first_after noise first frames.0 in
    rw (append-nil halves, ← append_assoc noise halves (sent_all others))
    (packets_delivered (noise ++ halves) w.ones others frames.1 w.few w.open_part)

pub first_seen : NoiseCostsAtMostTheFirst
unfolding sent_all
first_seen noise first frame =
    ap (λ l. seen (noise ++ l)) (append-nil (sent first.bytes first.timing)) ∙ (first_after noise first frame).outcomes

pub soon : OpenBodiesEndSoon
soon noise halves inside = (
  n noise halves inside,
  (end noise halves inside).p.1,
  end_is noise halves inside,
  (ended noise halves inside 58 refl).some,
  omega (arith, soon_ended noise halves inside),
)

pub none_open : NoiseBetweenBodiesCostsNothing
none_open noise ones packets hunts frames =
    packets_delivered noise ones packets frames (few_ones noise ones hunts) hunts

-- a long preamble is never lost
first_kept : (noise : List ℕ) (first : Sent) → 18 ≤ first.timing.preamble
    → at_first (length noise) (open_end noise) first ≡ at_last_halves (length noise) (first ∷ [])
unfolding at_first ended_by_ones
first_kept noise first long = by_rest (rest noise) refl
  where
    by_rest : (state : Rest) → rest noise ≡ state
        → at_first (length noise) (open_end noise) first ≡ at_last_halves (length noise) (first ∷ [])
    by_rest (Hunting ones) hunts = rw hunts refl
    by_rest (InBody halves) inside =
        rw (end_is noise halves inside)
        (at_first-heard (length noise) (n noise halves inside, (end noise halves inside).p.1) first
        (omega (arith, soon_ended noise halves inside, long)))

pub long_preambles : LongPreamblesLoseNothing
unfolding at_last_halves AllFrames sent_all
long_preambles noise first others frames long =
    let place = length-append noise (sent first.bytes first.timing) in
    others_seen noise first others frames
    ∙ rw (
      first_seen noise first frames.0,
      first_kept noise first (omega (arith, long)),
      append-nil,
      place,
      append_assoc,
    )

-- copies

pub sent_all-append : (packets others : List Sent) → sent_all (packets ++ others) ≡ sent_all packets ++ sent_all others
unfolding sent_all
sent_all-append [] others = refl
sent_all-append (packet ∷ packets) others = rw (sent_all-append packets others, append_assoc)

all_frames-append : (packets : List Sent) (copy : Sent) → AllFrames packets → IsFrame copy.bytes
    → AllFrames (packets ++ copy ∷ [])
unfolding AllFrames
all_frames-append [] copy frames frame = (frame, tt)
all_frames-append (packet ∷ packets) copy frames frame = (frames.0, all_frames-append packets copy frames.1 frame)

-- the last packet is at the last half-bit
last_packet : (place last : ℕ) (packets : List Sent) (copy : Sent)
    → last ≡ place + length (sent_all (packets ++ copy ∷ [])) - 1
    → Contains (at_last_halves place (packets ++ copy ∷ [])) (last, Packet copy.bytes)
unfolding at_last_halves sent_all
last_packet place last [] copy is = rw (is, append-nil) (0, omega arith, refl)
last_packet place last (packet ∷ packets) copy is =
    let halves : List ℕ = sent packet.bytes packet.timing in
    let more = length-append halves (sent_all (packets ++ copy ∷ [])) in
    Contains-append_right ((place + length halves - 1, Packet packet.bytes) ∷ []) _ _
    (last_packet (place + length halves) last packets copy (omega (arith, is, more)))

-- a copy before any half-bits
copy_before : (earlier : List Sent) (copy : Sent) (more : List ℕ) → AllFrames earlier → IsFrame copy.bytes
    → Contains (seen (sent_all (earlier ++ copy ∷ []) ++ more))
    (length (sent_all (earlier ++ copy ∷ [])) - 1, Packet copy.bytes)
copy_before earlier copy more frames frame =
    let packets : List Sent = earlier ++ copy ∷ [] in
    let grown = seen-grows (sent_all packets) more in
    rw (grown.1, seen-sent_all packets (all_frames-append earlier copy frames frame))
    (Contains-append_left _ grown.0 _ (last_packet 0 _ earlier copy (omega arith)))

-- the second of two copies after any half-bits
copy_after : (noise : List ℕ) (copy : Sent) → IsFrame copy.bytes
    → Contains (seen (noise ++ sent_all (copy ∷ copy ∷ [])))
    (length (noise ++ sent_all (copy ∷ copy ∷ [])) - 1, Packet copy.bytes)
unfolding AllFrames sent_all
copy_after noise copy frame =
    let last = last_packet (length (noise ++ sent_all (copy ∷ []))) (length (noise ++ sent_all (copy ∷ copy ∷ [])) - 1)
    [] copy (omega (arith, length-append {A = ℕ})) in
    rw (others_seen noise copy (copy ∷ []) (frame, (frame, tt))) (Contains-append_right _ _ _ last)

pub three_copies : OneOfThreeCopiesIsSeen
three_copies earlier copy zero after noise frames frame two =
    let both : after ≡ 2 = omega arith in
    inr (refl, rw both (copy_after (sent_all (earlier ++ []) ++ noise) copy frame))
three_copies earlier copy (suc before) after noise frames frame two =
    let packets : List Sent = earlier ++ copy ∷ [] in
    let more : List ℕ = sent_all (replicate before copy) in
    let kept_rest : List ℕ = sent_all (replicate after copy) in
    let front : sent_all (earlier ++ replicate (suc before) copy) ≡ sent_all packets ++ more =
    ap sent_all (sym (append_assoc earlier (copy ∷ []) (replicate before copy)))
    ∙ sent_all-append packets (replicate before copy) in
    let whole = copy_before earlier copy ((more ++ noise) ++ kept_rest) frames frame in
    inl (
      omega arith,
      rw (front, append_assoc (sent_all packets) more noise, append_assoc (sent_all packets) (more ++ noise) kept_rest)
          whole,
    )

-- a copy after any half-bits, a whole packet and other packets, before any half-bits
copy_between : (start : List ℕ) (first : Sent) (earlier : List Sent) (copy : Sent) (more : List ℕ)
    → AllFrames (first ∷ earlier) → IsFrame copy.bytes
    → Contains (seen ((start ++ sent_all (first ∷ earlier ++ copy ∷ [])) ++ more))
    (length (start ++ sent_all (first ∷ earlier ++ copy ∷ [])) - 1, Packet copy.bytes)
unfolding AllFrames sent_all
copy_between start first earlier copy more frames frame =
    let packets : List Sent = earlier ++ copy ∷ [] in
    let grown = seen-grows (start ++ sent_all (first ∷ packets)) more in
    let place : length (start ++ sent_all (first ∷ packets)) - 1
    ≡ length (start ++ sent_all (first ∷ [])) + length (sent_all packets) - 1 =
    omega (arith, length-append {A = ℕ}) in
    rw (grown.1, others_seen start first packets (frames.0, all_frames-append earlier copy frames.1 frame))
    (Contains-append_left _ grown.0 _
    (Contains-append_right _ _ _
    (last_packet (length (start ++ sent_all (first ∷ []))) _ earlier copy place)))

pub three_copies_after_noise : OneOfThreeCopiesIsSeenAfterNoise
three_copies_after_noise start first earlier copy zero after noise frames frame two =
    let both : after ≡ 2 = omega arith in
    let sent : List ℕ = start ++ sent_all (first ∷ earlier ++ []) in
    inr (refl, rw both (copy_after (sent ++ noise) copy frame))
three_copies_after_noise start first earlier copy (suc before) after noise frames frame two =
    let packets : List Sent = first ∷ earlier ++ copy ∷ [] in
    let more : List ℕ = sent_all (replicate before copy) in
    let kept_rest : List ℕ = sent_all (replicate after copy) in
    let front : start ++ sent_all (first ∷ earlier ++ replicate (suc before) copy)
    ≡ (start ++ sent_all packets) ++ more =
    ap (λ l. start ++ sent_all (first ∷ l)) (sym (append_assoc earlier (copy ∷ []) (replicate before copy)))
    ∙ ap (λ l. start ++ l) (sent_all-append packets (replicate before copy))
    ∙ sym (append_assoc start (sent_all packets) more) in
    let whole = copy_between start first earlier copy ((more ++ noise) ++ kept_rest) frames frame in
    inl (
      omega arith,
      rw (
        front,
        append_assoc (start ++ sent_all packets) more noise,
        append_assoc (start ++ sent_all packets) (more ++ noise) kept_rest,
      ) whole,
    )
