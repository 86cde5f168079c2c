use Rattle.std.proofs.Common.{List, ℕ, ◌++◌, ◌∷◌, [], ◌∙◌}
use Rattle.std.proofs.Math.Logic.{∥∥₁_map}
use Rattle.dcc_timing.specs.Recent.{recent_numbers}
use Rattle.dcc_lost.specs.Finding.{HasRead, heard_state}
use Rattle.dcc_lost.proofs.FinderLemmas.{reads_more}
use Rattle.dcc_lost.proofs.finder.LostFinder.hear.Goals.{After-push-2}
use Rattle.dcc_lost.proofs.finder.LostFinder.hear.Goals as goal

-- after this half-bit
read_next : (c : After-push-2) (durations : List ℕ)
    → HasRead (heard_state c.args.self.now.heard) (recent_numbers c.args.self.now.recent)
    (recent_numbers c.args.self.now.unused) durations
    → HasRead (heard_state c.push-seen.new.self) (recent_numbers c.push-2.new.self) (recent_numbers c.push.new.self)
    (durations ++ c.args.us ∷ [])
read_next c durations read =
    reads_more durations c.args.us _ _ _ _ _ _ c.from.result read (c.push-seen.ensures.hears durations read.heard)
    c.push-2.ensures c.push.ensures (c.from.ensures ∙ c.unused-unused.ensures.unused durations read.heard)

pub invariant_of-self : goal.invariant_of-self
invariant_of-self c = record {
  history = ∥∥₁_map c.args.self.now.history
      (λ list. (list.0 ++ c.args.us ∷ [], read_next (goal.at.invariant_of-self c).After-push-2 list.0 list.1));
}

pub returns-clause-reads : goal.returns-clause-reads
returns-clause-reads c = read_next (goal.at.returns-clause-reads c).After-push-2
