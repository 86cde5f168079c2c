use Rattle.std.proofs.Common.{◌≡◌, ◌≢◌, ◌≤◌, List, ℕ, ◌+◌, ◌++◌, ◌∙◌, ap, append-nil, arith, length, subst, sym, take}
use Rattle.std.proofs.Math.Logic.{∥∥₁_map}
use Rattle.std.proofs.lemmas.List.{length-take, length-take-le}
use Rattle.dcc_wire.specs.Framing.{StandsFor, is_hunting}
use Rattle.dcc_timing.specs.Numbers.{keep_last}
use Rattle.dcc_timing.specs.Ones.{AllOnes}
use Rattle.dcc_timing.specs.Recent.{recent_numbers}
use Rattle.dcc_timing.proofs.RecentLemmas.{keep_last_keep}
use Rattle.dcc_lost.specs.Figures.{AreTrackFigures}
use Rattle.dcc_lost.specs.MeasuresTrack.{MeasuresTrack}
use Rattle.dcc_lost.proofs.OneFigures.{figures_ones, inside_most, ones_first, taken_of_most}
use Rattle.dcc_lost.proofs.figures.TrackFigures.pass_ones.Goals.{After-saturating_add-self-2}
use Rattle.dcc_lost.proofs.figures.TrackFigures.pass_ones.Goals as goal

next : (c : After-saturating_add-self-2) (durations : List ℕ) → MeasuresTrack c.args.self.now durations
    → AreTrackFigures c.pass_ones-count.new.self c.args.self.now.ended c.saturating_add-self.result
    c.saturating_add-self-2.result (recent_numbers c.push_rising.new.numbers)
    (durations ++ take c.pass_ones-count.result c.args.halves.now)
unfolding StandsFor
next c durations are =
    let halves = c.args.halves.now in
    let count = c.pass_ones-count.result in
    let passed = c.pass_ones-count.ensures in
    let same = taken_of_most halves count c.min-most.result passed.within in
    let all : AllOnes (take count halves) = rw same at passed.ones in
    let some : count ≢ 0 = λ none. absurd (omega (arith, none, c.if-count-eq0.false)) in
    let last : keep_last 130 durations ≡ c.last.result.now =
    sym (keep_last_keep 130 130 durations (omega arith))
    ∙ ap (keep_last 130) (sym (c.recent.ensures durations are.measured)) ∙ sym c.last.ensures in
    let long : length (take count halves) ≡ count =
    length-take-le count halves (inside_most halves count _ passed.within) in
    let most : count ≤ c.ones_without_end.result = omega
    (arith, passed.within, length-take c.min-most.result halves, c.min-most.ensures) in
    record {
      measured = rw same at (passed.measures durations are.measured);
      lost = figures_ones durations (take count halves) all
          (λ n few.
          c.ones_without_end.ensures.quiet durations (take (n + 1) (take count halves)) (sym last)
          (ones_first (take count halves) (n + 1) all)
          (omega (arith, length-take-le (n + 1) (take count halves) (omega (arith, few))))
          (omega (arith, length-take-le (n + 1) (take count halves) (omega (arith, few)), few, long, most))) _ _ _
          (ap is_hunting (sym are.measured.framer) ∙ passed.hunts some) _ _ _ _ are.lost
          (rw long (omega (arith, c.saturating_add-self.ensures)))
          (rw long (omega (arith, c.saturating_add-self-2.ensures)))
          (λ numbers so. rw (long, ← c.min.ensures) (c.push_rising.ensures numbers so));
    }

pub invariant_of-self : goal.invariant_of-self
invariant_of-self c = record {
  history = ∥∥₁_map c.args.self.now.history (λ list. (
    list.0,
    subst (λ timings. AreTrackFigures timings c.args.self.now.ended c.args.self.now.ones c.args.self.now.unused
        (recent_numbers c.args.self.now.preambles) list.0) (sym (c.pass_ones-count.ensures.left c.if-count-eq0.true))
        list.1,
  ));
}

pub invariant_of-self-2 : goal.invariant_of-self-2
invariant_of-self-2 c =
    let step = (goal.at.invariant_of-self-2 c).After-saturating_add-self-2 in
    record {
      history = ∥∥₁_map c.args.self.now.history
          (λ list. (list.0 ++ take c.pass_ones-count.result c.args.halves.now, next step list.0 list.1));
    }

pub returns-then-count-eq0-clause-measures : goal.returns-then-count-eq0-clause-measures
returns-then-count-eq0-clause-measures c = λ durations are.
    let none : c.pass_ones-count.result ≡ 0 = c.if-count-eq0.true in
    rw (none, append-nil, c.pass_ones-count.ensures.left none) are

pub returns-clause-measures : goal.returns-clause-measures
returns-clause-measures c = next (goal.at.returns-clause-measures c).After-saturating_add-self-2
