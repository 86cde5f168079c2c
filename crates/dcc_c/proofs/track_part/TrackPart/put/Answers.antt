use Prim.{∣◌∣₁}
use Rattle.std.specs.Prelude.{[]}
use Rattle.dcc_c.proofs.track_part.TrackPart.put.Goals as goal

pub invariant_of-self : goal.invariant_of-self
invariant_of-self c = record { held = ∣ (c.args.progress.now, c.put.ensures []) ∣₁ }
