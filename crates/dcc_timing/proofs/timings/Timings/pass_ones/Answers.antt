use Rattle.std.proofs.Common.{◌++◌, List, ℕ, arith, length-append, subst, sym, take}
use Rattle.std.proofs.Math.Logic.{∥∥₁_map}
use Rattle.std.proofs.lemmas.List.Sums.{sum_by-append}
use Rattle.dcc_wire.specs.declared.seen.Seen.{Seen}
use Rattle.dcc_wire.specs.Kept.{kept_rest}
use Rattle.dcc_timing.specs.Outcomes.{AreOutcomes}
use Rattle.dcc_timing.specs.PacketBits.{AreBits}
use Rattle.dcc_timing.specs.KeptGaps.{AreGaps}
use Rattle.dcc_timing.proofs.MeasureLemmas.{bits_quiet, ends_quiet}
use Rattle.dcc_timing.specs.Measured.{AreMeasured}
use Rattle.dcc_timing.specs.Measures.{Measures}
use Rattle.dcc_timing.specs.Ones.{AllOnes}
use Rattle.dcc_timing.specs.Recent.{recent_numbers}
use Rattle.dcc_timing.proofs.timings.Timings.pass_ones.Goals.{After-count_halves}
use Rattle.dcc_timing.proofs.timings.Timings.pass_ones.Goals as goal

-- the list with these half-bits at its end is measured, for each list that was
measured : (c : After-count_halves) (list : List ℕ) → Measures c.args.self.now list
    → AreMeasured c.count_halves.new.halves c.count_halves.new.time
    c.count_halves.new.classes c.args.self.now.outcomes c.args.self.now.packets (kept_rest c.take_ones-ones.new.framer)
    (recent_numbers c.count_halves.new.recent)
    (list ++ take c.take_ones-ones.result c.args.halves.now)
measured c list are =
    let taken = take c.take_ones-ones.result c.args.halves.now in
    let passes = c.take_ones-ones.ensures in
    let quiet = passes.sees list are.framer in
    let counted = c.count_halves.ensures in
    record {
      count = omega (arith, counted.halves, are.count, length-append list taken);
      time = omega (arith, counted.time, are.time, sum_by-append (λ x. x) list taken);
      classes = counted.classes list are.classes;
      outcomes = subst (λ (l : List (ℕ × Seen)). AreOutcomes c.args.self.now.outcomes l) (sym quiet) are.outcomes;
      bits = subst (λ (l : List (ℕ × ℕ)). AreBits c.args.self.now.packets.bits l)
          (sym (bits_quiet list taken quiet)) are.bits;
      gaps = subst (λ (l : List ℕ). AreGaps c.args.self.now.packets.gaps l)
          (sym (ends_quiet list taken quiet)) are.gaps;
      framer = passes.stands list are.framer;
      recent = counted.recent list are.recent;
    }

pub invariant_of-self-clause-history : goal.invariant_of-self-clause-history
invariant_of-self-clause-history c =
    ∥∥₁_map c.args.self.now.history (λ list. (
      list.0,
      subst (λ framer. AreMeasured c.args.self.now.halves c.args.self.now.time c.args.self.now.classes
          c.args.self.now.outcomes c.args.self.now.packets (kept_rest framer) (recent_numbers c.args.self.now.recent)
          list.0) (sym (c.take_ones-ones.ensures.left c.if-ones-eq0.true)) list.1,
    ))

pub invariant_of-self-2-clause-history : goal.invariant_of-self-2-clause-history
invariant_of-self-2-clause-history c =
    ∥∥₁_map c.args.self.now.history (λ list. (
      list.0 ++ take c.take_ones-ones.result c.args.halves.now,
      measured (goal.at.invariant_of-self-2-clause-history c).After-count_halves list.0 list.1,
    ))

pub returns-clause-measures : goal.returns-clause-measures
returns-clause-measures c = measured (goal.at.returns-clause-measures c).After-count_halves

pub returns-then-not-is_hunting-clause-ones : goal.returns-then-not-is_hunting-clause-ones
unfolding AllOnes
returns-then-not-is_hunting-clause-ones c = tt
