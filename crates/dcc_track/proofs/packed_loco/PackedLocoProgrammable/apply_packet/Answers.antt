use Rattle.dcc_track.proofs.LocoLemmas.{loco_applied}
use Rattle.dcc_track.proofs.packed_loco.PackedLocoProgrammable.apply_packet.Goals as goal

pub returns : goal.returns
returns c =
    loco_applied _ _ _ _ c.args.packet.now c.who.ensures.possible c.is_own_write.ensures.byte c.apply.ensures.same_who
    c.apply.ensures.step
