-- The figures of half-bits of ones between bodies.
use Rattle.std.proofs.Common.{◌*◌, slice_set}
use Rattle.std.proofs.Common.{◌≡◌, ℕ, suc, ◌+◌, ◌-◌, ◌<◌, ◌≤◌, min, List, [], ◌∷◌, ◌++◌, length, take}
use Rattle.std.proofs.Common.{get_or, None, refl, sym, ap, ◌∙◌, arith, append-nil, append_assoc, length-append}
use Rattle.std.proofs.Common.{true, inl, inr}
use Rattle.std.proofs.lemmas.Bool.{cases_lt}
use Rattle.std.proofs.lemmas.Bool.Decides.{nat_tests}
use Rattle.std.proofs.lemmas.List.{take_more, take_more_set, get_or-append-add, get_or-drop}
use Rattle.std.proofs.lemmas.List.{get_or_append_left}
use Rattle.std.proofs.lemmas.List.{length-drop, length-take, take-take, take_all}
use Rattle.dcc_wire.specs.declared.half.Half.TheVariants.{One, Zero}
use Rattle.dcc_wire.specs.declared.seen.Seen.TheVariants.{Nothing}
use Rattle.dcc_wire.specs.Framing.{is_hunting, rest}
use Rattle.dcc_wire.specs.Half.{class_of}
use Rattle.dcc_timing.specs.Numbers.{keep_last}
use Rattle.dcc_timing.specs.Ones.{AllOnes}
use Rattle.dcc_timing.proofs.OneLemmas.{hunts_on, quiet_one}
use Rattle.dcc_lost.specs.declared.figures.Ended.{Ended}
use Rattle.dcc_lost.specs.Figures.{AreLostFigures, preambles_from}
use Rattle.dcc_lost.specs.Inner.{BeginsBody, CanEndFrame, rising}
use Rattle.dcc_lost.specs.Lost.{frame_lost, longest_frame_at_end}
use Rattle.dcc_lost.specs.Nearest.{nearest_class}
use Rattle.dcc_lost.specs.Preambles.{preamble_at_end}
use Rattle.dcc_lost.proofs.EndLemmas.{no_body, quiet_none}
use Rattle.dcc_lost.proofs.FigureLemmas.{figures_quiet}
use Rattle.dcc_lost.proofs.LostLemmas.{found_at, shows_nothing}
use Rattle.dcc_lost.proofs.PreambleLemmas.{ones_more, preambles_from-push, unused_quiet}

-- one more rising number
pub rising_more : (numbers : List ℕ) (first i next : ℕ) → i < length numbers → next ≡ min 65535 (first + i)
    → take i numbers ≡ rising first i → take (i + 1) (slice_set numbers i next) ≡ rising first (i + 1)
unfolding rising
rising_more numbers first i next inside is before =
    let more : i + 1 ≡ suc i = omega arith in
    take_more_set numbers i next inside ∙ ap (λ l. l ++ next ∷ []) before
    ∙ ap (λ k. rising first i ++ k ∷ []) is ∙ ap (rising first) (sym more)

nearest_one : (us : ℕ) → class_of us ≡ One → nearest_class us ≡ One
nearest_one us one = grind (arith, nat_tests)

-- the half-bits at some places of a list of ones
ones_at : (halves : List ℕ) (n : ℕ) → AllOnes halves → n < length halves → class_of (get_or halves n 0) ≡ One
unfolding AllOnes
ones_at [] n all inside = absurd (omega (arith, inside))
ones_at (us ∷ halves) ℕ.zero all inside = all.0
ones_at (us ∷ halves) (suc n) all inside = ones_at halves n all.1 (omega (arith, inside))

-- the first half-bits of a list of ones
pub ones_first : (halves : List ℕ) (n : ℕ) → AllOnes halves → AllOnes (take n halves)
unfolding AllOnes
ones_first halves ℕ.zero all = tt
ones_first [] (suc n) all = tt
ones_first (us ∷ halves) (suc n) all = (all.0, ones_first halves n all.1)

-- half-bits of ones at the end of a list
module _ (durations halves : List ℕ) (all : AllOnes halves) (n : ℕ) (count : length halves ≡ n + 1)
    (whole : length (keep_last 130 durations) ≡ 130) where
  abbrev longer : List ℕ
  longer = durations ++ halves

  long : 130 ≤ length durations
  long = omega (arith, whole, length-drop (length durations - 130) durations)

  length_longer : length longer ≡ length durations + (n + 1)
  length_longer = omega (arith, length-append durations halves, count)

  -- the half-bit so many places before the end
  before_ones : (back i : ℕ) → i + back ≡ n + 131 → i < 130
      → get_or longer (length longer - back) 0 ≡ get_or (keep_last 130 durations) i 0
  before_ones back i is few =
      let place : length longer - back ≡ length durations - 130 + i = omega (arith, length_longer, long, is, few) in
      ap (λ k. get_or longer k 0) place
      ∙ get_or_append_left durations halves 0 _ (omega (arith, long, few))
      ∙ sym (get_or-drop (length durations - 130) durations i 0)

  in_last : (k back : ℕ) → k + back ≡ 56 → get_or (keep_last 56 longer) k 0 ≡ get_or longer (length longer - back) 0
  in_last k back is =
      let place : length longer - 56 + k ≡ length longer - back = omega (arith, length_longer, long, is) in
      get_or-drop (length longer - 56) longer k 0 ∙ ap (λ i. get_or longer i 0) place

  -- (after 20 ones, a half-bit of a one stands where the last byte would begin)
  in_ones : 19 ≤ n → class_of (get_or (keep_last 56 longer) 36 0) ≡ One
  in_ones many =
      let place : length longer - 20 ≡ length durations + (n - 19) = omega (arith, length_longer, many) in
      let same : get_or (keep_last 56 longer) 36 0 ≡ get_or halves (n - 19) 0 =
      in_last 36 20 refl ∙ ap (λ i. get_or longer i 0) place ∙ get_or-append-add durations halves (n - 19) 0 in
      rw same (ones_at halves (n - 19) all (omega (arith, count)))

  begins_in : (m : ℕ) → n < 19 → 3 ≤ m → m ≤ 6
      → nearest_class (get_or longer (length longer - (18 * m + 3)) 0) ≡ One
      → nearest_class (get_or longer (length longer - (18 * m + 2)) 0) ≡ Zero
      → BeginsBody (keep_last 130 durations) (n + 128 - 18 * m)
  begins_in m few least most one zero =
      let i : ℕ = n + 128 - 18 * m in
      let is : i + (18 * m + 3) ≡ n + 131 = omega (arith, most) in (
        rw (before_ones (18 * m + 3) i is (omega (arith, is, least, few))) at one,
        rw (before_ones (18 * m + 2) (i + 1) (omega (arith, is)) (omega (arith, is, least, few))) at zero,
      )

  pub no_frame_ends : (n < 19 → CanEndFrame (keep_last 130 durations) n → ⊥) → longest_frame_at_end longer ≡ None
  no_frame_ends quiet = no_body longer (λ m least most has one zero. elim (cases_lt n 19) [
    | inl few ↦
        quiet few (
          rw (in_last 0 56 refl, before_ones 56 (n + 75) (omega arith) (omega (arith, few))) at has.1,
          rw (in_last 18 38 refl, before_ones 38 (n + 93) (omega arith) (omega (arith, few))) at has.2,
          rw (in_last 36 20 refl, before_ones 20 (n + 111) (omega arith) (omega (arith, few))) at has.3,
          (m, least, most, begins_in m few least most one zero),
        )
    | inr many ↦
        let it = nearest_one (get_or (keep_last 56 longer) 36 0) (in_ones many) in
        let clash : One ≡ Zero = sym it ∙ has.3 in cc
  ])

-- half-bits of ones at the end of a list, one after the other

pub record OnesPassed (durations halves : List ℕ) (ended : Ended) (ones unused n : ℕ) : Type 0 where
  pub hunts : is_hunting (rest (durations ++ take n halves)) ≡ true
  pub figures : (last : List ℕ)
      × AreLostFigures ended (min 65535 (ones + n)) (min 65535 (unused + n)) last (durations ++ take n halves)
  pub preambles : preambles_from [] (durations ++ take n halves)
      ≡ preambles_from [] durations ++ rising (min ones unused) n

module _ (durations halves : List ℕ) (all : AllOnes halves)
    (quiet : (n : ℕ) → n < length halves → longest_frame_at_end (durations ++ take (n + 1) halves) ≡ None)
    (ended : Ended) (ones unused : ℕ) where
  passed_more : (n : ℕ) → n < length halves → OnesPassed durations halves ended ones unused n
      → OnesPassed durations halves ended ones unused (suc n)
  unfolding rising preamble_at_end
  passed_more n inside passed =
      let before : List ℕ = durations ++ take n halves in
      let us : ℕ = get_or halves n 0 in
      let more : suc n ≡ n + 1 = omega arith in
      let grows : durations ++ take (n + 1) halves ≡ before ++ us ∷ [] =
      ap (λ l. durations ++ l) (take_more halves n 0 inside) ∙ sym (append_assoc durations (take n halves) (us ∷ [])) in
      let one = ones_at halves n all inside in
      let same = quiet_one before us one passed.hunts in
      let hunts = hunts_on before us one passed.hunts in
      let old = passed.figures.1 in
      let none : frame_lost before us ≡ None =
      sym (found_at before us Nothing (shows_nothing before us same) refl)
      ∙ quiet_none _ _ (rw grows at (quiet n inside)) in
      let preamble : preamble_at_end before ≡ min 65535 (min ones unused + n) = omega
      (arith, old.ones_are, old.unused_are) in
      let next : AreLostFigures ended (min 65535 (ones + (n + 1))) (min 65535 (unused + (n + 1)))
      (keep_last 130 (passed.figures.0 ++ min (min 65535 (ones + n)) (min 65535 (unused + n)) ∷ []))
      (before ++ us ∷ []) =
      figures_quiet before us ended _ _ passed.figures.0 (min (min 65535 (ones + n)) (min 65535 (unused + n))) _ _ _ old
      refl refl same none
      (ones_more before us (min 65535 (ones + n)) (min 65535 (ones + (n + 1))) (nearest_one us one) old.ones_are
      (omega arith))
      (omega (arith, old.unused_are, unused_quiet before us same hunts)) in
      let passes : OnesPassed durations halves ended ones unused (n + 1) = record {
        hunts = rw grows hunts;
        figures = (
          keep_last 130 (passed.figures.0 ++ min (min 65535 (ones + n)) (min 65535 (unused + n)) ∷ []),
          rw grows next,
        );
        preambles = ap (preambles_from []) grows ∙ preambles_from-push [] before us
            ∙ ap (λ l. l ++ preamble_at_end before ∷ []) passed.preambles
            ∙ ap (λ k. (preambles_from [] durations ++ rising (min ones unused) n) ++ k ∷ []) preamble
            ∙ append_assoc (preambles_from [] durations) (rising (min ones unused) n)
            (min 65535 (min ones unused + n) ∷ [])
            ∙ ap (λ k. preambles_from [] durations ++ rising (min ones unused) k) more;
      } in
      rw more passes

  passed_all : (n : ℕ) → n ≤ length halves → is_hunting (rest durations) ≡ true → (last : List ℕ)
      → AreLostFigures ended ones unused last durations → ones ≤ 65535 → unused ≤ 65535
      → OnesPassed durations halves ended ones unused n
  unfolding rising
  passed_all ℕ.zero within hunts last are few_ones few_unused =
      let some : min 65535 (ones + 0) ≡ ones = omega (arith, few_ones) in
      let other : min 65535 (unused + 0) ≡ unused = omega (arith, few_unused) in
      record {
        hunts = rw append-nil hunts;
        figures = (last, rw (append-nil, some, other) are);
        preambles = ap (preambles_from []) (append-nil durations) ∙ sym (append-nil (preambles_from [] durations));
      }
  passed_all (suc n) within hunts last are few_ones few_unused =
      passed_more n (omega (arith, within)) (passed_all n (omega (arith, within)) hunts last are few_ones few_unused)

  pub figures_ones : is_hunting (rest durations) ≡ true → (last : List ℕ) (ones' unused' : ℕ) (last' : List ℕ)
      → AreLostFigures ended ones unused last durations
      → ones' ≡ min 65535 (ones + length halves) → unused' ≡ min 65535 (unused + length halves)
      → ((numbers : List ℕ) → last ≡ keep_last 130 numbers
      → last' ≡ keep_last 130 (numbers ++ rising (min ones unused) (length halves)))
      → AreLostFigures ended ones' unused' last' (durations ++ halves)
  figures_ones hunts last ones' unused' last' are is other lasts =
      let passed = passed_all (length halves) (omega arith) hunts last are (omega (arith, are.ones_are))
      (omega (arith, are.unused_are)) in
      let whole_list : take (length halves) halves ≡ halves = take_all (length halves) halves (omega arith) in
      let figures = rw whole_list at passed.figures.1 in
      record {
        ones_are = is ∙ figures.ones_are;
        unused_are = other ∙ figures.unused_are;
        preambles = lasts (preambles_from [] durations) are.preambles
            ∙ ap (keep_last 130) (sym (rw whole_list at passed.preambles));
        count = figures.count;
        few = figures.few;
        least = figures.least;
      }

-- some of the first half-bits of a list

pub inside_most : (halves : List ℕ) (count most : ℕ) → count ≤ length (take most halves) → count ≤ length halves
inside_most halves count most within = omega (arith, within, length-take most halves)

pub taken_of_most : (halves : List ℕ) (count most : ℕ) → count ≤ length (take most halves)
    → take count (take most halves) ≡ take count halves
taken_of_most halves count most within =
    take-take count most halves (omega (arith, within, length-take most halves))
