use Rattle.std.proofs.Common.{◌≡◌, IsTrue, List, ℕ, ◌++◌, ◌∷◌, [], arith, false, refl, subst, sym}
use Rattle.std.proofs.Math.Logic.{∥∥₁_map}
use Rattle.dcc_wire.specs.declared.seen.Seen.TheVariants.{Nothing}
use Rattle.dcc_timing.specs.Recent.{recent_numbers}
use Rattle.dcc_lost.specs.Figures.{AreTrackFigures}
use Rattle.dcc_lost.specs.Lost.{frame_lost}
use Rattle.dcc_lost.specs.MeasuresTrack.{MeasuresTrack}
use Rattle.dcc_lost.proofs.FigureLemmas.{figures_more, figures_quiet}
use Rattle.dcc_lost.proofs.LostLemmas.{shows_nothing}
use Rattle.dcc_lost.proofs.figures.TrackFigures.push_inline.Goals.{After-can_lose_packet, After-count, Then-not-pass}
use Rattle.dcc_lost.proofs.figures.TrackFigures.push_inline.Goals as goal

-- after a half-bit at which no packet ends
next_quiet : (c : After-can_lose_packet) (durations : List ℕ) → MeasuresTrack c.args.self.now durations
    → c.can_lose_packet.result ≡ false
    → AreTrackFigures c.pass.new.self c.args.self.now.ended c.ones_next-self.result c.unused_next-self.result
    (recent_numbers c.push.new.self) (durations ++ c.args.us ∷ [])
next_quiet c durations are quiet =
    let us = c.args.us in
    let yes : IsTrue c.pass.result = grind arith in
    let measured = c.pass.ensures.measures yes durations are.measured in
    let same = c.pass.ensures.sees yes durations are.measured in
    let hunts = c.is_hunting.ensures (durations ++ us ∷ []) measured in
    record {
      measured = measured;
      lost = figures_quiet durations us _ _ _ _ c.min.result _ _ _ are.lost c.min.ensures c.push.ensures same
          (c.can_lose_packet.ensures durations measured same quiet)
          (c.ones_next-self.ensures durations are.lost.ones_are)
          (c.unused_next-self.ensures durations us are.lost.unused_are (shows_nothing durations us same) hunts);
    }

-- after a half-bit at which a packet can end
next_ended : (c : After-count) (durations : List ℕ) → MeasuresTrack c.args.self.now durations
    → AreTrackFigures c.pass.new.self c.count.new.self c.ones_next-self.result c.unused_next-self.result
    (recent_numbers c.push.new.self) (durations ++ c.args.us ∷ [])
next_ended c durations are =
    let us = c.args.us in
    let yes : IsTrue c.pass.result = grind arith in
    let measured = c.pass.ensures.measures yes durations are.measured in
    let sees = shows_nothing durations us (c.pass.ensures.sees yes durations are.measured) in
    let hunts = c.is_hunting.ensures (durations ++ us ∷ []) measured in
    record {
      measured = measured;
      lost = figures_more durations us _ _ _ _ _ Nothing (frame_lost durations us) c.min.result _ _ _
          are.lost c.min.ensures c.push.ensures sees refl (c.ones_next-self.ensures durations are.lost.ones_are)
          (c.unused_next-self.ensures durations us are.lost.unused_are sees hunts)
          (c.count.ensures.lost durations us measured sees) (c.count.ensures.shortest durations us measured sees);
    }

-- a half-bit with an outcome changes nothing here
left : (c : Then-not-pass) (durations : List ℕ) → MeasuresTrack c.args.self.now durations
    → AreTrackFigures c.pass.new.self c.args.self.now.ended c.args.self.now.ones c.args.self.now.unused
    (recent_numbers c.args.self.now.preambles) durations
left c durations are =
    let no : c.pass.result ≡ false = grind arith in
    subst (λ timings. AreTrackFigures timings c.args.self.now.ended c.args.self.now.ones c.args.self.now.unused
    (recent_numbers c.args.self.now.preambles) durations) (sym (c.pass.ensures.left no)) are

pub invariant_of-self : goal.invariant_of-self
invariant_of-self c = record {
  history = ∥∥₁_map c.args.self.now.history
      (λ list. (list.0, left (goal.at.invariant_of-self c).Then-not-pass list.0 list.1));
}

pub returns-then-not-pass-clause-measures : goal.returns-then-not-pass-clause-measures
returns-then-not-pass-clause-measures c = λ durations are.
    c.push_shown.ensures.measures durations
    (left (goal.at.returns-then-not-pass-clause-measures c).Then-not-pass durations are)

pub invariant_of-self-then-not-can_lose_packet : goal.invariant_of-self-then-not-can_lose_packet
invariant_of-self-then-not-can_lose_packet c =
    let step = (goal.at.invariant_of-self-then-not-can_lose_packet c).After-can_lose_packet in
    record {
      history = ∥∥₁_map c.args.self.now.history
          (λ list. (list.0 ++ c.args.us ∷ [], next_quiet step list.0 list.1 (grind arith)));
    }

pub returns-then-not-can_lose_packet-clause-measures : goal.returns-then-not-can_lose_packet-clause-measures
returns-then-not-can_lose_packet-clause-measures c = λ durations are.
    next_quiet (goal.at.returns-then-not-can_lose_packet-clause-measures c).After-can_lose_packet durations are
    (grind arith)

pub invariant_of-self-2 : goal.invariant_of-self-2
invariant_of-self-2 c =
    let step = (goal.at.invariant_of-self-2 c).After-count in
    record {
      history = ∥∥₁_map c.args.self.now.history
          (λ list. (list.0 ++ c.args.us ∷ [], next_ended step list.0 list.1));
    }

pub returns-clause-measures : goal.returns-clause-measures
returns-clause-measures c = next_ended (goal.at.returns-clause-measures c).After-count
