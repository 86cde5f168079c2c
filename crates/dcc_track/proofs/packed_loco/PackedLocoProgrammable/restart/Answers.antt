use Rattle.dcc_track.proofs.LocoLemmas.{loco_restarted}
use Rattle.dcc_track.proofs.packed_loco.PackedLocoProgrammable.restart.Goals as goal

pub returns : goal.returns
returns c =
    loco_restarted c.args.self.now.registers.address _ _ _ c.power_up.ensures.who c.power_up.ensures.registers
