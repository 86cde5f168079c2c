use Rattle.std.proofs.Common.{◌≡◌, ◌+◌, ◌*◌, ◌++◌, ◌∷◌, [], IsTrue, false, List, ℕ, ap, arith, subst, sum, sym, ◌∙◌}
use Rattle.std.proofs.Math.Logic.{∥∥₁_map}
use Rattle.dcc_wire.specs.declared.seen.Seen.{Seen}
use Rattle.dcc_wire.specs.Kept.{kept_rest}
use Rattle.dcc_timing.specs.Outcomes.{AreOutcomes}
use Rattle.dcc_timing.specs.PacketBits.{AreBits}
use Rattle.dcc_timing.specs.KeptGaps.{AreGaps}
use Rattle.dcc_timing.proofs.MeasureLemmas.{bits_quiet, ends_quiet, length_run, sum_run}
use Rattle.dcc_timing.proofs.RecentLemmas.{half_behind}
use Rattle.dcc_timing.specs.Measured.{AreMeasured}
use Rattle.dcc_timing.specs.Measures.{Measures}
use Rattle.dcc_timing.specs.Recent.{recent_numbers}
use Rattle.dcc_timing.proofs.timings.Timings.pass.Goals.{After-count_half}
use Rattle.dcc_timing.proofs.timings.Timings.pass.Goals as goal

-- the list with this half-bit at its end is measured, for each list that was
measured : (c : After-count_half) (halves : List ℕ) → Measures c.args.self.now halves
    → AreMeasured c.count_half.new.halves c.count_half.new.time
    c.count_half.new.classes c.args.self.now.outcomes c.args.self.now.packets (kept_rest c.pass.new.self)
    (recent_numbers c.count_half.new.recent)
    (halves ++ c.args.us ∷ [])
measured c halves are =
    let us = c.args.us in
    let yes : IsTrue c.pass.result = grind arith in
    let quiet = c.pass.ensures.sees yes halves are.framer in
    let time : c.count_half.new.time ≡ sum halves + 1 * us = omega (arith, are.time, c.count_half.ensures.time) in
    record {
      count = c.count_half.ensures.halves ∙ ap (λ k. k + 1) are.count ∙ sym (length_run halves 1 us);
      time = time ∙ sym (sum_run halves 1 us);
      classes = c.count_half.ensures.classes halves are.classes;
      outcomes = subst (λ (l : List (ℕ × Seen)). AreOutcomes c.args.self.now.outcomes l) (sym quiet) are.outcomes;
      bits = subst (λ (l : List (ℕ × ℕ)). AreBits c.args.self.now.packets.bits l)
          (sym (bits_quiet halves (us ∷ []) quiet)) are.bits;
      gaps = subst (λ (l : List ℕ). AreGaps c.args.self.now.packets.gaps l)
          (sym (ends_quiet halves (us ∷ []) quiet)) are.gaps;
      framer = c.pass.ensures.stands yes halves are.framer;
      recent = half_behind halves us (recent_numbers c.args.self.now.recent) (recent_numbers c.count_half.new.recent)
          are.recent c.count_half.ensures.recent;
    }

pub invariant_of-self-clause-history : goal.invariant_of-self-clause-history
invariant_of-self-clause-history c =
    let no : c.pass.result ≡ false = grind arith in
    ∥∥₁_map c.args.self.now.history (λ list. (
      list.0,
      subst (λ framer. AreMeasured c.args.self.now.halves c.args.self.now.time c.args.self.now.classes
          c.args.self.now.outcomes c.args.self.now.packets (kept_rest framer) (recent_numbers c.args.self.now.recent)
          list.0) (sym (c.pass.ensures.left no)) list.1,
    ))

pub invariant_of-self-2-clause-history : goal.invariant_of-self-2-clause-history
invariant_of-self-2-clause-history c =
    ∥∥₁_map c.args.self.now.history (λ list. (
      list.0 ++ c.args.us ∷ [],
      measured (goal.at.invariant_of-self-2-clause-history c).After-count_half list.0 list.1,
    ))

pub returns-clause-measures : goal.returns-clause-measures
returns-clause-measures c = λ passed. measured (goal.at.returns-clause-measures c).After-count_half
