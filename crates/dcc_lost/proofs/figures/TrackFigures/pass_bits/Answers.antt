use Rattle.std.proofs.Common.{◌≡◌, ◌≢◌, List, ℕ, ◌++◌, ◌∙◌, arith, length, subst, sym, take}
use Rattle.std.proofs.Math.Logic.{∥∥₁_map}
use Rattle.std.proofs.lemmas.List.{length-take-le}
use Rattle.dcc_wire.specs.Framing.{StandsFor}
use Rattle.dcc_timing.specs.Recent.{recent_numbers}
use Rattle.dcc_lost.specs.Figures.{AreTrackFigures}
use Rattle.dcc_lost.specs.MeasuresTrack.{MeasuresTrack}
use Rattle.dcc_lost.proofs.BodyFigures.{figures_body}
use Rattle.dcc_lost.proofs.figures.TrackFigures.pass_bits.Goals.{After-ones_after-self}
use Rattle.dcc_lost.proofs.figures.TrackFigures.pass_bits.Goals as goal

next : (c : After-ones_after-self) (durations : List ℕ) → MeasuresTrack c.args.self.now durations
    → AreTrackFigures c.pass_bits-count.new.self c.args.self.now.ended c.ones_after-self.result c.args.self.now.unused
    (recent_numbers c.take.new.self) (durations ++ take c.pass_bits-count.result c.args.halves.now)
unfolding StandsFor
next c durations are =
    let timed = c.pass_bits-count.ensures in
    let some : c.pass_bits-count.result ≢ 0 = λ none. absurd (omega (arith, none, c.if-count-eq0.false)) in
    let passes = timed.passes some in
    let count : length (take c.pass_bits-count.result c.args.halves.now) ≡ c.pass_bits-count.result =
    length-take-le c.pass_bits-count.result c.args.halves.now timed.within in
    record {
      measured = timed.measures durations are.measured;
      lost = figures_body durations passes.body (take c.pass_bits-count.result c.args.halves.now)
          (sym are.measured.framer ∙ passes.before) passes.unfinished _ _ _ _ _ _ are.lost
          (c.ones_after-self.ensures durations are.lost.ones_are)
          (λ numbers so. rw count (c.take.ensures numbers so));
    }

pub invariant_of-self : goal.invariant_of-self
invariant_of-self c = record {
  history = ∥∥₁_map c.args.self.now.history (λ list. (
    list.0,
    subst (λ timings. AreTrackFigures timings c.args.self.now.ended c.args.self.now.ones c.args.self.now.unused
        (recent_numbers c.args.self.now.preambles) list.0) (sym (c.pass_bits-count.ensures.left c.if-count-eq0.true))
        list.1,
  ));
}

pub invariant_of-self-2 : goal.invariant_of-self-2
invariant_of-self-2 c =
    let step = (goal.at.invariant_of-self-2 c).After-ones_after-self in
    record {
      history = ∥∥₁_map c.args.self.now.history
          (λ list. (list.0 ++ take c.pass_bits-count.result c.args.halves.now, next step list.0 list.1));
    }

pub returns-clause-measures : goal.returns-clause-measures
returns-clause-measures c = next (goal.at.returns-clause-measures c).After-ones_after-self
