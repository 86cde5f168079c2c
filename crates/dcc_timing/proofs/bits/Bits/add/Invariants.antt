use Rattle.std.proofs.Common.{◌-◌, ◌≤◌, drop, length}
use Rattle.dcc_timing.proofs.BitLemmas.{Adding}
use Rattle.dcc_timing.proofs.bits.Bits.add.Given as goal

abbrev pub invariant-bits : goal.invariant-bits
invariant-bits l = record {
  within : l.place ≤ length l.halves;
  adding : Adding l.fn.self l.self l.halves (drop l.place l.halves);
}

abbrev pub decreases-bits : goal.decreases-bits
decreases-bits l = length l.halves - l.place
