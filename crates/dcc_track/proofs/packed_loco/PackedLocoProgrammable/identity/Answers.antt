use Rattle.dcc_track.proofs.LocoLemmas.{loco_has_cvs}
use Rattle.dcc_track.proofs.packed_loco.PackedLocoProgrammable.identity.Goals as goal

pub returns-clause-cvs : goal.returns-clause-cvs
returns-clause-cvs c = loco_has_cvs _ _ c.who.ensures.possible
