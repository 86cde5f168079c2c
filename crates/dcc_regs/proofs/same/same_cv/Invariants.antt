use Rattle.std.proofs.Common.{◌≡◌, ℕ, ◌<◌}
use Rattle.dcc_regs.specs.declared.register.Register.TheVariants.{CvBit}
use Rattle.dcc_regs.proofs.same.same_cv.Given as goal

abbrev pub invariant-loop-place : goal.invariant-loop-place
invariant-loop-place g l =
    (k : ℕ) → k < l.place
    → (goal.Decoder-dyn g l.a.now).registers l.a.now.1 (CvBit l.cv k) ≡ (goal.Decoder-dyn g l.b.now).registers
    l.b.now.1 (CvBit l.cv k)
