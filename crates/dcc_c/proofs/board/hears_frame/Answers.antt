use Rattle.std.proofs.Common.{refl}
use Rattle.dcc_packet.specs.declared.packet.Packet.TheVariants.{Other}
use Rattle.dcc_c.proofs.board.hears_frame.Goals as goal

pub returns-in-None : goal.returns-in-None
returns-in-None c =
    (Other (record { frame = c.args.frame.now; valid = c.requires; no_row = c.in-None.ensures.none }), refl, refl)
