use Rattle.std.proofs.Common.{◌≡◌, ◌+◌, ◌++◌, ℕ, List, take}
use Rattle.dcc_timing.specs.Classes.{AreClasses}
use Rattle.dcc_timing.specs.Inner.Counts.{classes_count}
use Rattle.dcc_timing.proofs.classes.Classes.add_all.Given as goal

abbrev pub invariant-loop-i : goal.invariant-loop-i
invariant-loop-i l = record {
  classes : (durations : List ℕ) → AreClasses l.fn.self durations
      → AreClasses l.self (durations ++ take l.i l.halves);
  count : classes_count l.self ≡ classes_count l.fn.self + l.i;
}
