use Prim.{∣◌∣₁}
use Rattle.std.proofs.Common.{refl}
use Rattle.std.specs.Prelude.{[], None, false}
use Rattle.dcc_c.proofs.track_part.TrackPart.clear.Goals as goal

pub invariant_of-self : goal.invariant_of-self
invariant_of-self c = record { held = ∣ (record { in_service = false; pending = None }, c.leave.ensures []) ∣₁ }

pub returns : goal.returns
returns c decoder = record { service = c.leave.ensures decoder.cvs; changed = refl; main_only = refl }
