use Rattle.std.proofs.Common.{◌≡◌, ◌+◌, ◌-◌, ◌*◌, ◌++◌, ◌∷◌, [], List, ℕ, ap, arith, length, subst}
use Rattle.std.proofs.Common.{sum, sym, ◌∙◌}
use Rattle.std.proofs.Math.Logic.{∥∥₁_map}
use Rattle.dcc_wire.specs.declared.seen.Seen.{Seen}
use Rattle.dcc_wire.specs.Framing.{report_at, seen}
use Rattle.dcc_wire.specs.Kept.{kept_rest}
use Rattle.dcc_timing.specs.Outcomes.{AreOutcomes}
use Rattle.dcc_timing.specs.PacketBits.{AreBits, packet_bits_in}
use Rattle.dcc_timing.specs.Gaps.{ends_in}
use Rattle.dcc_timing.specs.KeptGaps.{AreGaps}
use Rattle.dcc_timing.proofs.MeasureLemmas.{Shows, bits_run, ends_run, length_run, sum_run}
use Rattle.dcc_timing.proofs.RecentLemmas.{half_behind}
use Rattle.dcc_timing.specs.Measured.{AreMeasured}
use Rattle.dcc_timing.specs.Measures.{Measures}
use Rattle.dcc_timing.specs.Recent.{recent_numbers}
use Rattle.dcc_timing.proofs.timings.Timings.push_shown.Goals.{After-add-2}
use Rattle.dcc_timing.proofs.timings.Timings.push_shown.Goals as goal

-- the list with this half-bit at its end is measured, for each list that was
measured : (c : After-add-2) (halves : List ℕ) → Measures c.args.self.now halves
    → AreMeasured c.count_half.new.halves c.count_half.new.time
    c.count_half.new.classes c.add.new.self c.add-2.new.self (kept_rest c.push_shown-seen.new.self)
    (recent_numbers c.count_half.new.recent)
    (halves ++ c.args.us ∷ [])
measured c halves are =
    let us = c.args.us in
    let shown = c.push_shown-seen.result in
    let sees = c.push_shown-seen.ensures.sees halves are.framer in
    let shows : Shows halves (us ∷ []) (length halves + 1 - 1) shown =
    sees ∙ ap (λ n. seen halves ++ report_at n shown) (omega arith) in
    let recent = half_behind halves us (recent_numbers c.args.self.now.recent) (recent_numbers c.count_half.new.recent)
    are.recent c.count_half.ensures.recent in
    let time : c.count_half.new.time ≡ sum halves + 1 * us = omega (arith, are.time, c.count_half.ensures.time) in
    record {
      count = c.count_half.ensures.halves ∙ ap (λ k. k + 1) are.count ∙ sym (length_run halves 1 us);
      time = time ∙ sym (sum_run halves 1 us);
      classes = c.count_half.ensures.classes halves are.classes;
      outcomes = subst (λ (l : List (ℕ × Seen)). AreOutcomes c.add.new.self l) (sym sees)
          (c.add.ensures.outcomes (seen halves) (length halves) are.outcomes);
      bits = subst (λ (l : List (ℕ × ℕ)). AreBits c.add-2.new.self.bits l)
          (sym (bits_run halves us 1 1 shown (omega arith) (omega arith) shows (recent_numbers c.count_half.new.recent)
          recent c.add-2.ensures.few))
          (c.add-2.ensures.bits (packet_bits_in halves) are.bits);
      gaps = subst (λ (l : List ℕ). AreGaps c.add-2.new.self.gaps l)
          (sym (ends_run halves us 1 1 shown (omega arith) (omega arith) shows _ time))
          (c.add-2.ensures.gaps (ends_in halves) are.gaps);
      framer = c.push_shown-seen.ensures.stands halves are.framer;
      recent = recent;
    }

pub invariant_of-self-clause-history : goal.invariant_of-self-clause-history
invariant_of-self-clause-history c =
    ∥∥₁_map c.args.self.now.history (λ list. (
      list.0 ++ c.args.us ∷ [],
      measured (goal.at.invariant_of-self-clause-history c).After-add-2 list.0 list.1,
    ))

pub returns-clause-history : goal.returns-clause-history
returns-clause-history c = c.args.self.now.history

pub returns-clause-sees : goal.returns-clause-sees
returns-clause-sees c = λ halves are. c.push_shown-seen.ensures.sees halves are.framer

pub returns-clause-measures : goal.returns-clause-measures
returns-clause-measures c = measured (goal.at.returns-clause-measures c).After-add-2

pub returns-clause-something : goal.returns-clause-something
returns-clause-something c = c.push_shown-seen.ensures.something
