use Rattle.std.proofs.Common.{◌≡◌, List, ℕ, subst}
use Rattle.dcc_packet.specs.Cvs.{cv_in}
use Rattle.dcc_regs.specs.Loco.{start_map, start_who}
use Rattle.dcc_track.specs.LocoDecoders.{loco_on_tracks}
use Rattle.dcc_c.specs.Decoders.{loco_state_in}
use Rattle.dcc_c.proofs.possible_loco.PossibleLoco.start.Goals as goal

pub returns-clause-state : goal.returns-clause-state
returns-clause-state c =
    subst (λ (cvs : List ℕ). loco_state_in c.power_up.new.self
    ≡ loco_on_tracks (start_who (cv_in cvs)) (start_map (cv_in cvs)))
    c.copy_from_slice.ensures.after c.power_up.ensures.state
