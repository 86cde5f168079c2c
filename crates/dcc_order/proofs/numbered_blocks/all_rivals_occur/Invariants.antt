use Rattle.std.proofs.Common.{◌<◌, ℕ}
use Rattle.std.specs.Prelude.{slice_index_or, IsTrue}
use Rattle.dcc_order.specs.declared.turns.Turns.{Turns}
use Rattle.dcc_order.proofs.numbered_blocks.all_rivals_occur.Given as goal

abbrev pub invariant-loop-taken : goal.invariant-loop-taken
invariant-loop-taken l = (k : ℕ) (t : Turns) → k < l.taken-index → IsTrue (slice_index_or l.turns k t).rival_last
