use Rattle.std.proofs.Common.{◌≡◌, ◌∙◌, IsTrue, ◌++◌, append-nil, append_assoc, false, get_or, take}
use Rattle.std.proofs.Common.{ap, arith, refl, sym}
use Rattle.std.proofs.lemmas.Bool.Decides.{nat_tests}
use Rattle.std.proofs.lemmas.List.{take_more}
use Rattle.dcc_wire.specs.declared.half.Half.TheVariants.{One}
use Rattle.dcc_wire.specs.Framing.{StandsFor, is_hunting}
use Rattle.dcc_wire.specs.Half.{class_of}
use Rattle.dcc_timing.specs.Ones.{AllOnes}
use Rattle.dcc_timing.proofs.OneLemmas.{hunts_on, ones_more, quiet_one}
use Rattle.dcc_timing.proofs.timings.take_ones.Goals.{then-not-is_half_of_one-via-then-not-is_half_of_one}
use Rattle.dcc_timing.proofs.timings.take_ones.Goals.{then-not-is_half_of_one-via-else-not-is_half_of_one+then-not-pass}
use Rattle.dcc_timing.proofs.timings.take_ones.Goals as goal

pub ones-init : goal.ones-init
unfolding AllOnes
ones-init c = record {
  stands = λ durations h. rw append-nil h;
  sees = λ durations h. rw append-nil refl;
  ones = tt;
  hunts = c.requires;
  left = λ none. refl;
  inside = omega arith;
}

pub ones-preserved : goal.ones-preserved
unfolding StandsFor
ones-preserved c =
    let halves = c.args.halves.now in
    let at = c.ones.at in
    let before = c.ones.invariant in
    let passed : IsTrue c.pass.result = grind arith in
    let one : class_of (get_or halves at 0) ≡ One = grind (arith, nat_tests) in
    record {
      stands = λ durations h.
          rw (take_more halves at 0 c.ones-test.true, ← append_assoc)
          (c.pass.ensures.stands passed (durations ++ take at halves) (before.stands durations h));
      sees = λ durations h.
          rw (take_more halves at 0 c.ones-test.true, ← append_assoc)
          (c.pass.ensures.sees passed (durations ++ take at halves) (before.stands durations h)
          ∙ before.sees durations h);
      ones = ones_more halves at c.ones-test.true before.ones one;
      hunts =
          let durations = c.pass.ensures.history.0 in
          let stood = c.pass.ensures.history.1 in
          let hunted = ap is_hunting (sym stood) ∙ before.hunts in
          ap is_hunting (c.pass.ensures.stands passed durations stood)
          ∙ hunts_on durations (get_or halves at 0) one hunted;
      left = λ none. absurd (omega (arith, none));
      inside = omega (arith, c.ones-test.true);
    }

-- a half-bit of another class, since a framer that hunts passes a half-bit of a one
pub returns-then-not-is_half_of_one-clause-stops : goal.returns-then-not-is_half_of_one-clause-stops
unfolding StandsFor
returns-then-not-is_half_of_one-clause-stops c = λ inside one. elim c.then-not-is_half_of_one.branch [
  | then-not-is_half_of_one-via-then-not-is_half_of_one other ↦ absurd (grind (arith, nat_tests))
  | then-not-is_half_of_one-via-else-not-is_half_of_one+then-not-pass other ↦
      let us = get_or c.args.halves.now c.ones.at 0 in
      let stood = other.pass.ensures.history in
      let hunted = ap is_hunting (sym stood.1) ∙ c.ones.invariant.hunts in
      let refused : other.pass.result ≡ false = grind arith in
      absurd (other.pass.ensures.shows refused stood.0 stood.1 (quiet_one stood.0 us one hunted))
]
