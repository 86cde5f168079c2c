use Rattle.std.proofs.Common.{refl}
use Rattle.dcc_packet.specs.declared.packet.Packet.TheVariants.{Other}
use Rattle.dcc_c.proofs.packet.read.Goals as goal

-- a frame in no row is a packet of its own
pub returns-in_default : goal.returns-in_default
returns-in_default c = (
  Other (record { frame = c.args.frame.now; valid = c.requires; no_row = c.in_default.ensures.none }),
  refl,
  c.of_kind.ensures,
)
