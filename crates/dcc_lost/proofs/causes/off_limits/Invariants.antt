use Rattle.std.proofs.Common.{◌≡◌, take}
use Rattle.std.specs.List.{filter}
use Rattle.dcc_lost.specs.Causes.{is_off_one, is_off_zero, off_limits}
use Rattle.dcc_lost.proofs.causes.off_limits.Given as goal

abbrev pub invariant-halves : goal.invariant-halves
invariant-halves l = record {
  ones : l.ones ≡ off_limits (filter is_off_one (take l.us-index l.halves));
  zeros : l.zeros ≡ off_limits (filter is_off_zero (take l.us-index l.halves));
}
