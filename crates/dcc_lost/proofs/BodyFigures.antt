-- The figures of half-bits that form bits of an unfinished body.
use Rattle.std.proofs.Common.{◌≡◌, ◌≢◌, ℕ, suc, ◌+◌, ◌<◌, min, List, [], ◌∷◌, ◌++◌, length, map, take}
use Rattle.std.proofs.Common.{get_or, replicate}
use Rattle.std.proofs.Common.{None, refl, sym, ap, ◌∙◌, arith, append-nil, append_assoc}
use Rattle.std.proofs.lemmas.List.{take_more}
use Rattle.dcc_wire.specs.declared.half.Half.{Half}
use Rattle.dcc_wire.specs.declared.half.Half.TheVariants.{One}
use Rattle.dcc_wire.specs.declared.seen.Seen.TheVariants.{Nothing}
use Rattle.dcc_wire.specs.Framing.{InBody, StandsFor, is_hunting, rest, seen}
use Rattle.dcc_wire.specs.Half.{class_of}
use Rattle.dcc_wire.specs.Outcomes.{outcome_of}
use Rattle.dcc_wire.proofs.ListLemmas.{passes_body, passes_in_body, unfinished_before}
use Rattle.dcc_timing.specs.Numbers.{keep_last}
use Rattle.dcc_lost.specs.declared.figures.Ended.{Ended}
use Rattle.dcc_lost.specs.Figures.{AreLostFigures, preambles_from}
use Rattle.dcc_lost.specs.Lost.{frame_lost}
use Rattle.dcc_lost.specs.Nearest.{nearest_class}
use Rattle.dcc_lost.specs.Preambles.{all_unused_at_end, nearest_ones_at_end, preamble_at_end}
use Rattle.dcc_lost.proofs.CauseLemmas.{ones_at_end-one, ones_at_end-other}
use Rattle.dcc_lost.proofs.EndLemmas.{busy_none}
use Rattle.dcc_lost.proofs.FigureLemmas.{figures_quiet}
use Rattle.dcc_lost.proofs.LostLemmas.{found_at, shows_nothing}
use Rattle.dcc_lost.proofs.PreambleLemmas.{ones_push, preambles_from-push, unused_busy}

-- in a body each half-bit is used

unused_in_body : (durations : List ℕ) (body : List Half) → rest durations ≡ InBody body
    → all_unused_at_end durations ≡ 0
unused_in_body durations body is = sym (unused_busy durations (ap is_hunting is))

preamble_in_body : (durations : List ℕ) (body : List Half) → rest durations ≡ InBody body
    → preamble_at_end durations ≡ 0
unfolding preamble_at_end
preamble_in_body durations body is = omega (arith, unused_in_body durations body is)

-- one half-bit
module _ (durations : List ℕ) (body : List Half) (us : ℕ) (is : rest durations ≡ InBody body)
    (unfinished : outcome_of (body ++ class_of us ∷ []) ≡ None) where
  next_rest : rest (durations ++ us ∷ []) ≡ InBody (body ++ class_of us ∷ [])
  unfolding StandsFor
  next_rest = sym ((passes_in_body body us unfinished).stands durations (sym is))

  next_seen : seen (durations ++ us ∷ []) ≡ seen durations
  unfolding StandsFor
  next_seen = (passes_in_body body us unfinished).quiet durations (sym is)

  next_lost : frame_lost durations us ≡ None
  next_lost =
      sym (found_at durations us Nothing (shows_nothing durations us next_seen) refl)
      ∙ busy_none _ _ (ap is_hunting next_rest)

preambles_body : (durations : List ℕ) (body : List Half) (halves : List ℕ) → rest durations ≡ InBody body
    → outcome_of (body ++ map class_of halves) ≡ None
    → preambles_from [] (durations ++ halves) ≡ preambles_from [] durations ++ replicate (length halves) 0
preambles_body durations body [] is unfinished =
    ap (preambles_from []) (append-nil durations) ∙ sym (append-nil (preambles_from [] durations))
preambles_body durations body (us ∷ halves) is unfinished =
    let before = unfinished_before body us halves unfinished in
    let none = preamble_in_body durations body is in
    ap (preambles_from []) (sym (append_assoc durations (us ∷ []) halves))
    ∙ preambles_body (durations ++ us ∷ []) (body ++ class_of us ∷ []) halves
    (next_rest durations body us is before.0) before.1
    ∙ ap (λ l. l ++ replicate (length halves) 0)
    (preambles_from-push [] durations us ∙ ap (λ n. preambles_from [] durations ++ n ∷ []) none)
    ∙ append_assoc (preambles_from [] durations) (0 ∷ []) (replicate (length halves) 0)

figures_along : (durations : List ℕ) (body : List Half) (halves : List ℕ) → rest durations ≡ InBody body
    → outcome_of (body ++ map class_of halves) ≡ None → (ended : Ended) (ones unused : ℕ) (last : List ℕ)
    → AreLostFigures ended ones unused last durations
    → (ones' : ℕ) × (unused' : ℕ) × (last' : List ℕ) × AreLostFigures ended ones' unused' last' (durations ++ halves)
figures_along durations body [] is unfinished ended ones unused last are =
    (ones, unused, last, rw (append-nil durations) are)
figures_along durations body (us ∷ halves) is unfinished ended ones unused last are =
    let before = unfinished_before body us halves unfinished in
    let longer = durations ++ us ∷ [] in
    let one = figures_quiet durations us ended ones unused last (min ones unused)
    (min 65535 (nearest_ones_at_end longer)) (min 65535 (all_unused_at_end longer))
    (keep_last 130 (last ++ min ones unused ∷ [])) are refl refl (next_seen durations body us is before.0)
    (next_lost durations body us is before.0) refl refl in
    let more = figures_along longer (body ++ class_of us ∷ []) halves (next_rest durations body us is before.0)
    before.1 ended _ _ _ one in
    (more.0, more.1, more.2, rw append_assoc at more.3)

pub figures_body : (durations : List ℕ) (body : List Half) (halves : List ℕ) → rest durations ≡ InBody body
    → outcome_of (body ++ map class_of halves) ≡ None → (ended : Ended) (ones unused : ℕ) (last : List ℕ)
    (ones' : ℕ) (last' : List ℕ) → AreLostFigures ended ones unused last durations
    → ones' ≡ min 65535 (nearest_ones_at_end (durations ++ halves))
    → ((numbers : List ℕ) → last ≡ keep_last 130 numbers
    → last' ≡ keep_last 130 (numbers ++ replicate (length halves) 0))
    → AreLostFigures ended ones' unused last' (durations ++ halves)
unfolding StandsFor
figures_body durations body halves is unfinished ended ones unused last ones' last' are ones_are lasts =
    let along = (figures_along durations body halves is unfinished ended ones unused last are).3 in
    let open_body = sym ((passes_body body halves unfinished).stands durations (sym is)) in
    record {
      ones_are = ones_are;
      unused_are = omega
          (arith, are.unused_are, unused_in_body durations body is, unused_in_body (durations ++ halves) _ open_body);
      preambles = lasts (preambles_from [] durations) are.preambles
          ∙ ap (keep_last 130) (sym (preambles_body durations body halves is unfinished));
      count = along.count;
      few = along.few;
      least = along.least;
    }

-- half-bits of ones at the end, from the last half-bit on

module _ (durations halves : List ℕ) (at : ℕ) (inside : at < length halves) where
  all : durations ++ take (at + 1) halves ≡ (durations ++ take at halves) ++ get_or halves at 0 ∷ []
  all = rw (take_more halves at 0 inside) (sym (append_assoc durations (take at halves) (get_or halves at 0 ∷ [])))

  pub one_before : nearest_class (get_or halves at 0) ≡ One
      → nearest_ones_at_end (durations ++ take (at + 1) halves)
      ≡ suc (nearest_ones_at_end (durations ++ take at halves))
  one_before one =
      ap nearest_ones_at_end all ∙ ones_push (durations ++ take at halves) (get_or halves at 0)
      ∙ ones_at_end-one (map nearest_class (durations ++ take at halves)) (nearest_class (get_or halves at 0)) one

  pub other_before : nearest_class (get_or halves at 0) ≢ One
      → nearest_ones_at_end (durations ++ take (at + 1) halves) ≡ 0
  other_before other =
      ap nearest_ones_at_end all ∙ ones_push (durations ++ take at halves) (get_or halves at 0)
      ∙ ones_at_end-other (map nearest_class (durations ++ take at halves)) (nearest_class (get_or halves at 0)) other
