use Rattle.std.proofs.Common.{◌≡◌, ℕ, ◌<◌, ◌≤◌, unwrap_or, length}
use Rattle.std.specs.Prelude.{slice_index}
use Rattle.dcc_regs.specs.Outputs.{aspect_set}
use Rattle.dcc_regs.proofs.board.set_aspects.Given as goal

abbrev pub invariant-loop-n : goal.invariant-loop-n
invariant-loop-n l = record {
  long : length l.aspects ≡ 4;
  done : (k : ℕ) → k < l.n → slice_index l.aspects k ≡ unwrap_or (aspect_set l.packet k) (slice_index l.fn.aspects k);
  left : (k : ℕ) → l.n ≤ k → slice_index l.aspects k ≡ slice_index l.fn.aspects k;
}
