use Rattle.std.proofs.Common.{add-one, arith}
use Rattle.std.proofs.Math.Seq.{take-suc}
use Rattle.std.proofs.lemmas.List.Elements.{AllZip-push}
use Rattle.dcc_wire.specs.Jitter.{IsWithin}
use Rattle.dcc_examples.proofs.measured_track.measured.Goals as goal

pub loop-us-preserved : goal.loop-us-preserved
loop-us-preserved c = (
  rw (c.in_ok-push.ensures.items, add-one, take-suc c.args.halves.now c.loop-us.us-index 0 c.loop-us-test.true)
      (AllZip-push (IsWithin 3) _ _ _ _ c.loop-us.invariant.0 c.in_steps.ensures),
  omega arith,
)
