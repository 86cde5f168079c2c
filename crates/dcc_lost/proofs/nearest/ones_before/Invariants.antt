use Rattle.std.proofs.Common.{◌≡◌, map, ◌+◌, drop}
use Rattle.dcc_wire.specs.Framing.{ones_before}
use Rattle.dcc_lost.specs.Nearest.{nearest_class}
use Rattle.dcc_lost.proofs.nearest.ones_before.Given as goal

abbrev pub invariant-loop-i : goal.invariant-loop-i
invariant-loop-i l =
    ones_before (map nearest_class l.halves) ≡ l.i + ones_before (map nearest_class (drop l.i l.halves))
