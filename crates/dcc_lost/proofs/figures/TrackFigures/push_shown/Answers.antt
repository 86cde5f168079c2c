use Rattle.std.proofs.Common.{List, ℕ, ◌++◌, ◌∷◌, [], refl}
use Rattle.std.proofs.Math.Logic.{∥∥₁_map}
use Rattle.dcc_timing.specs.Recent.{recent_numbers}
use Rattle.dcc_lost.specs.Figures.{AreTrackFigures}
use Rattle.dcc_lost.specs.Lost.{frame_lost}
use Rattle.dcc_lost.specs.MeasuresTrack.{MeasuresTrack}
use Rattle.dcc_lost.proofs.FigureLemmas.{figures_more}
use Rattle.dcc_lost.proofs.figures.TrackFigures.push_shown.Goals.{After-count}
use Rattle.dcc_lost.proofs.figures.TrackFigures.push_shown.Goals as goal

-- the numbers belong to the list with this half-bit at its end, for each list that they belonged to
next : (c : After-count) (durations : List ℕ) → MeasuresTrack c.args.self.now durations
    → AreTrackFigures c.push_shown-seen.new.self c.count.new.self c.ones_next-ones.result c.unused_next-self.result
    (recent_numbers c.push.new.self) (durations ++ c.args.us ∷ [])
next c durations are =
    let us = c.args.us in
    let measured = c.push_shown-seen.ensures.measures durations are.measured in
    let sees = c.push_shown-seen.ensures.sees durations are.measured in
    let hunts = c.is_hunting.ensures (durations ++ us ∷ []) measured in
    record {
      measured = measured;
      lost = figures_more durations us _ _ _ _ _ c.push_shown-seen.result (frame_lost durations us)
          c.min-preamble.result _ _ _
          are.lost c.min-preamble.ensures c.push.ensures sees refl
          (c.ones_next-ones.ensures durations are.lost.ones_are)
          (c.unused_next-self.ensures durations us are.lost.unused_are sees hunts)
          (c.count.ensures.lost durations us measured sees) (c.count.ensures.shortest durations us measured sees);
    }

pub invariant_of-self : goal.invariant_of-self
invariant_of-self c = record {
  history = ∥∥₁_map c.args.self.now.history
      (λ list. (list.0 ++ c.args.us ∷ [], next (goal.at.invariant_of-self c).After-count list.0 list.1));
}

pub returns-clause-measures : goal.returns-clause-measures
returns-clause-measures c = next (goal.at.returns-clause-measures c).After-count
