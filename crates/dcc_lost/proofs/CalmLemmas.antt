-- No other body begins within the body of a lost packet.
use Rattle.std.proofs.Common.{◌≡◌, ◌≢◌, ◌⊎◌, ℕ, ◌+◌, ◌-◌, ◌*◌, ◌<◌, ◌≤◌, min, List, [], ◌∷◌, ◌++◌, length, drop, map}
use Rattle.std.proofs.Common.{Bool, true, false, refl, sym, ap, ◌∙◌, arith, inl, inr, append_assoc, append-nil}
use Rattle.std.proofs.Common.{length-drop, reverse}
use Rattle.std.proofs.lemmas.Bool.{lt-leb}
use Rattle.std.proofs.lemmas.Bool.Decides.{nat_tests}
use Rattle.std.proofs.lemmas.List.{length-reverse, length-map}
use Rattle.dcc_wire.specs.declared.half.Half.{Half}
use Rattle.dcc_wire.specs.declared.half.Half.TheVariants.{One, Zero, Bad}
use Rattle.dcc_wire.specs.declared.seen.Seen.{Seen}
use Rattle.dcc_wire.specs.declared.seen.Seen.TheVariants.{Nothing, Packet, Refused}
use Rattle.dcc_wire.specs.Bodies.{body, body_bits, halves_of, bits_of}
use Rattle.dcc_wire.specs.Framing.{Rest, Hunting, InBody, rest, rest_at, hunting, seen, report_at, starts, used_up}
use Rattle.dcc_wire.specs.Framing.{ones_before, ones_at_end}
use Rattle.dcc_wire.specs.Half.{class_of}
use Rattle.dcc_wire.specs.Outcomes.{outcome_of, ones_left}
use Rattle.dcc_wire.specs.Inner.Steps.{answer_of, answer_to, left_of, rest_after}
use Rattle.dcc_wire.proofs.BitLemmas.{halves_of-append}
use Rattle.dcc_wire.proofs.ByteBits.{cases_Option}
use Rattle.dcc_wire.proofs.FramingLemmas.{rest-push, seen-push}
use Rattle.dcc_wire.proofs.OutcomeLemmas.{outcome_of-something, ones_left_le}
use Rattle.dcc_lost.specs.Nearest.{nearest_class}
use Rattle.dcc_wire.specs.Framing.{is_hunting}
use Rattle.dcc_lost.specs.Unused.{unused_at_end}
use Rattle.dcc_lost.specs.LostLaws.{OneOutcomeUsesThePreamble}
use Rattle.dcc_lost.proofs.CauseLaw.{parts, ones_before-few}

-- no zero follows 20 ones, after so many ones
abbrev Calm : ℕ → List Half → Type 0
Calm ones [] = Unit {0}
Calm ones (One ∷ halves) = Calm (ones + 1) halves
Calm ones (Zero ∷ halves) = (ones < 20) × Calm 0 halves
Calm ones (Bad ∷ halves) = Calm 0 halves

-- nor after the two ones of an end bit, wherever it ends
abbrev CalmAfter : List Half → Type 0
CalmAfter [] = Unit {0}
CalmAfter (half ∷ halves) = Calm 2 halves × CalmAfter halves

calm_bits : (bits : List Bool) (halves : List Half) (ones : ℕ) → ones + 2 * length bits ≤ 19
    → ((n : ℕ) → n < 20 → Calm n halves) → Calm ones (halves_of bits ++ halves)
unfolding halves_of
calm_bits [] halves ones few calm = calm ones (omega arith)
calm_bits (true ∷ bits) halves ones few calm = calm_bits bits halves (ones + 1 + 1) (omega arith) calm
calm_bits (false ∷ bits) halves ones few calm =
    (omega arith, (omega arith, calm_bits bits halves 0 (omega arith) calm))

eight_bits : (byte : ℕ) → length (bits_of 8 byte) ≡ 8
unfolding bits_of
eight_bits byte = refl

calm_body : (bytes : List ℕ) (ones : ℕ) → ones < 20 → Calm ones (body bytes)
unfolding body body_bits halves_of
calm_body [] ones few = tt
calm_body (byte ∷ bytes) ones few = (
  few,
  (
    omega arith,
    rw (halves_of-append (bits_of 8 byte) (body_bits bytes))
        (calm_bits (bits_of 8 byte) (body bytes) 0 (omega (arith, eight_bits byte)) (calm_body bytes)),
  ),
)

calm_after_bits : (bits : List Bool) (halves : List Half) → 2 + 2 * length bits ≤ 19
    → ((n : ℕ) → n < 20 → Calm n halves) → CalmAfter halves → CalmAfter (halves_of bits ++ halves)
unfolding halves_of
calm_after_bits [] halves few calm after = after
calm_after_bits (true ∷ bits) halves few calm after = (
  calm_bits bits halves (2 + 1) (omega arith) calm,
  (
    calm_bits bits halves 2 (omega arith) calm,
    calm_after_bits bits halves (omega arith) calm after,
  ),
)
calm_after_bits (false ∷ bits) halves few calm after = (
  (omega arith, calm_bits bits halves 0 (omega arith) calm),
  (
    calm_bits bits halves 2 (omega arith) calm,
    calm_after_bits bits halves (omega arith) calm after,
  ),
)

calm_after_body : (bytes : List ℕ) → CalmAfter (body bytes)
unfolding body body_bits halves_of
calm_after_body [] = (tt, (tt, tt))
calm_after_body (byte ∷ bytes) =
    let eight = eight_bits byte in
    rw (halves_of-append (bits_of 8 byte) (body_bits bytes)) (
      (omega arith, calm_bits (bits_of 8 byte) (body bytes) 0 (omega (arith, eight)) (calm_body bytes)),
      (
        calm_bits (bits_of 8 byte) (body bytes) 2 (omega (arith, eight)) (calm_body bytes),
        calm_after_bits (bits_of 8 byte) (body bytes) (omega (arith, eight)) (calm_body bytes) (calm_after_body bytes),
      ),
    )

-- a framer between bodies

nearest_or_bad : (us : ℕ) → (class_of us ≡ nearest_class us) ⊎ (class_of us ≡ Bad)
nearest_or_bad us = grind (arith, nat_tests)

record Stays (before : List ℕ) (more : List ℕ) : Type 0 where
  ones : ℕ
  hunts : rest (before ++ more) ≡ Hunting ones
  outcomes : seen (before ++ more) ≡ seen before

record Next (now : Rest) (ones : ℕ) (half : Half) (halves : List Half) : Type 0 where
  left : ℕ
  hunts : now ≡ Hunting left
  most : ℕ
  few : left ≤ most
  calm : Calm most halves

next_by : (n ones : ℕ) (near half : Half) (halves : List Half) → n ≤ ones → Calm ones (near ∷ halves)
    → (half ≡ near) ⊎ (half ≡ Bad) → Next (rest_after (Hunting n) half) ones near halves
unfolding rest_after
next_by n ones One half halves few calm (inl same) =
    record { left = min 20 (n + 1); hunts = rw same; most = ones + 1; few = omega arith; calm = calm }
next_by n ones Zero half halves few calm (inl same) =
    record {
      left = 0;
      hunts = rw (same, lt-leb 20 n (omega (arith, few, calm.0)));
      most = 0;
      few = omega arith;
      calm =
          calm.1;
    }
next_by n ones Bad half halves few calm (inl same) =
    record { left = 0; hunts = rw same; most = 0; few = omega arith; calm = calm }
next_by n ones One half halves few calm (inr bad) =
    record { left = 0; hunts = rw bad; most = ones + 1; few = omega arith; calm = calm }
next_by n ones Zero half halves few calm (inr bad) =
    record { left = 0; hunts = rw bad; most = 0; few = omega arith; calm = calm.1 }
next_by n ones Bad half halves few calm (inr bad) =
    record { left = 0; hunts = rw bad; most = 0; few = omega arith; calm = calm }

stays : (before more : List ℕ) (n ones : ℕ) → rest before ≡ Hunting n → n ≤ ones → Calm ones (map nearest_class more)
    → Stays before more
unfolding answer_to report_at
stays before [] n ones hunts few calm = record { ones = n; hunts = rw append-nil hunts; outcomes = rw append-nil }
stays before (us ∷ more) n ones hunts few calm =
    let next = next_by n ones (nearest_class us) (class_of us) (map nearest_class more) few calm (nearest_or_bad us) in
    let here : rest (before ++ us ∷ []) ≡ Hunting next.left =
    rest-push before us ∙ ap (λ r. rest_after r (class_of us)) hunts ∙ next.hunts in
    let same : seen (before ++ us ∷ []) ≡ seen before = seen-push before us ∙ rw hunts (append-nil (seen before)) in
    let on = stays (before ++ us ∷ []) more next.left next.most here next.few next.calm in
    let whole = append_assoc before (us ∷ []) more in
    record {
      ones = on.ones;
      hunts = ap rest (sym whole) ∙ on.hunts;
      outcomes = ap seen (sym whole) ∙ on.outcomes ∙ same;
    }

-- a framer with an unfinished body

reported_one : (place : ℕ) (answer : Seen) → answer ≢ Nothing → report_at place answer ≡ (place, answer) ∷ []
unfolding report_at
reported_one place Nothing something = absurd (something refl)
reported_one place (Packet bytes) something = refl
reported_one place (Refused fault) something = refl

ends_once : (before more : List ℕ) (halves : List Half) → rest before ≡ InBody halves
    → CalmAfter (map nearest_class more) → is_hunting (rest (before ++ more)) ≡ true
    → (outcome : ℕ × Seen) × (seen (before ++ more) ≡ seen before ++ outcome ∷ [])
unfolding rest_after answer_to left_of answer_of report_at
ends_once before [] halves inside calm hunts =
    let e : is_hunting (InBody halves) ≡ true =
    ap is_hunting (sym inside ∙ ap rest (sym (append-nil before))) ∙ hunts in
    absurd cc
ends_once before (us ∷ more) halves inside calm hunts =
    let whole = append_assoc before (us ∷ []) more in
    let hunts_on : is_hunting (rest ((before ++ us ∷ []) ++ more)) ≡ true =
    ap (λ l. is_hunting (rest l)) whole ∙ hunts in
    elim (cases_Option (outcome_of (halves ++ class_of us ∷ []))) [
      | inl none ↦
          let here : rest (before ++ us ∷ []) ≡ InBody (halves ++ class_of us ∷ []) =
          rest-push before us ∙ rw (inside, none) in
          let same : seen (before ++ us ∷ []) ≡ seen before =
          seen-push before us ∙ rw (inside, none) (append-nil (seen before)) in
          let on = ends_once (before ++ us ∷ []) more (halves ++ class_of us ∷ []) here calm.1 hunts_on in
          (on.0, ap seen (sym whole) ∙ on.1 ∙ ap (λ l. l ++ on.0 ∷ []) same)
      | inr some ↦
          let here : rest (before ++ us ∷ []) ≡ Hunting (ones_left some.0.1) =
          rest-push before us ∙ rw (inside, some.1) in
          let something : some.0.1 ≢ Nothing = λ e.
          absurd (cc (outcome_of-something (halves ++ class_of us ∷ []) (rw some.1 e))) in
          let shows : seen (before ++ us ∷ []) ≡ seen before ++ (length before, some.0.1) ∷ [] =
          seen-push before us ∙ rw (inside, some.1)
          (ap (λ l. seen before ++ l) (reported_one (length before) some.0.1 something)) in
          let on = stays (before ++ us ∷ []) more (ones_left some.0.1) 2 here (ones_left_le some.0.1) calm.0 in
          ((length before, some.0.1), ap seen (sym whole) ∙ on.outcomes ∙ shows)
    ]

-- the number of ones of a framer is at most the number of unused half-bits

ones_unused_by : (halves : List Half) (places : List ℕ) (n : ℕ) → rest_at halves places ≡ Hunting n
    → n ≤ min 20 (length halves - used_up halves places)
unfolding rest_at hunting ones_at_end
ones_unused_by halves [] n e =
    let used = used_up halves [] in
    let same : min 20 (ones_before (reverse (drop used halves))) ≡ n = cc in
    omega (
      arith,
      same,
      ones_before-few (reverse (drop used halves)),
      length-reverse (drop used halves),
      length-drop
          used halves,
    )
ones_unused_by halves (start ∷ earlier) n e =
    let used = used_up halves (start ∷ earlier) in
    elim (cases_Option (outcome_of (drop start halves))) [
      | inl none ↦ absurd (cc (rw none at e))
      | inr some ↦
          let now : Hunting (min 20 (ones_before (reverse (drop used halves)))) ≡ Hunting n = rw some.1 at e in
          let same : min 20 (ones_before (reverse (drop used halves))) ≡ n = cc in
          omega (
            arith,
            same,
            ones_before-few (reverse (drop used halves)),
            length-reverse (drop used halves),
            length-drop used halves,
          )
    ]

ones_unused : (durations : List ℕ) (n : ℕ) → rest durations ≡ Hunting n → n ≤ unused_at_end durations
unfolding rest unused_at_end
ones_unused durations n e =
    rw (← length-map durations class_of) (ones_unused_by (map class_of durations) (starts (map class_of durations)) n e)

-- the law

calm_law_by : (before more : List ℕ) (frame : List ℕ) (was : Rest) → rest before ≡ was → map nearest_class more
    ≡ body frame
    → unused_at_end before < 20 → is_hunting (rest (before ++ more)) ≡ true
    → (is_hunting was ≡ true → seen (before ++ more) ≡ seen before)
    × (is_hunting was ≡ false → (outcome : ℕ × Seen) × (seen (before ++ more) ≡ seen before ++ outcome ∷ []))
calm_law_by before more frame (Hunting n) was is few hunts = (
  λ e. (stays before more n n was (omega arith)
      (rw is (calm_body frame n (omega (arith, few, ones_unused before n was))))).outcomes,
  λ e. absurd cc,
)
calm_law_by before more frame (InBody halves) was is few hunts =
    (λ e. absurd cc, λ e. ends_once before more halves was (rw is (calm_after_body frame)) hunts)

hunts_after : (framer : Rest) → ((halves : List Half) → framer ≢ InBody halves) → is_hunting framer ≡ true
hunts_after (Hunting n) never = refl
hunts_after (InBody halves) never = absurd (never halves refl)

pub calm_law : OneOutcomeUsesThePreamble
calm_law durations us frame before is same few =
    let p = parts durations us frame is.ends in
    let whole : before ++ (p.most ++ us ∷ []) ≡ durations ++ us ∷ [] =
    ap (λ l. l ++ (p.most ++ us ∷ [])) (same ∙ p.front) ∙ sym (append_assoc p.before p.most (us ∷ []))
    ∙ ap (λ l. l ++ us ∷ []) p.all in
    rw (← whole) (calm_law_by before (p.most ++ us ∷ []) frame (rest before) refl p.last few
    (rw whole (hunts_after (rest (durations ++ us ∷ [])) is.between_bodies)))
