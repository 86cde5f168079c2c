use Rattle.std.proofs.Common.{◌≤◌, take}
use Rattle.dcc_wire.specs.Jitter.{AreWithin}
use Rattle.dcc_examples.proofs.measured_track.measured.Given as goal

abbrev pub invariant-loop-us : goal.invariant-loop-us
invariant-loop-us l = AreWithin 3 (take l.us-index l.halves) l.measured.items × (l.since_step ≤ 3)
