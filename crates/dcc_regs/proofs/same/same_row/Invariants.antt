use Rattle.std.proofs.Common.{◌≡◌, ℕ, ◌<◌, ◌≤◌}
use Rattle.dcc_regs.specs.Inner.Same.{row_register}
use Rattle.dcc_regs.proofs.same.same_row.Given as goal

abbrev pub invariant-loop-n : goal.invariant-loop-n
invariant-loop-n g l =
    (k : ℕ) → l.first ≤ k → k < l.n
    → (goal.Decoder-dyn g l.a.now).registers l.a.now.1 (row_register l.row k) ≡ (goal.Decoder-dyn g l.b.now).registers
    l.b.now.1 (row_register l.row k)
