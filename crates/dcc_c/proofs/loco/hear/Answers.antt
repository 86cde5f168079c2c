use Rattle.std.proofs.Common.{ap}
use Rattle.dcc_packet.specs.declared.packet.Packet.TheVariants.{Loco}
use Rattle.dcc_c.specs.declared.frame.DccFrame.{DccFrame}
use Rattle.dcc_c.proofs.HeardLemmas.{loco_read, no_loco_applied, no_loco_read}
use Rattle.dcc_c.proofs.loco.hear.Goals as goal

pub returns-in-Some : goal.returns-in-Some
returns-in-Some c = (
  Loco c.in-Some.to c.in-Some.what,
  loco_read c.in-Some.to c.in-Some.what c.args.frame.now c.requires.valid c.in-Some.ensures.found,
  c.obey.ensures,
)

pub returns-in-None : goal.returns-in-None
returns-in-None c =
    let p = c.each_frame_is_a_packet.ensures in
    let other = no_loco_read p.0 c.args.frame.now c.requires.valid p.1 c.in-None.ensures.none in (
      p.0,
      p.1,
      no_loco_applied p.0 c.args.loco.now _ other
          (ap (λ (f : DccFrame).
          record c.args.loco.now { registers = record c.args.loco.now.registers { pending = f } }) c.none-loco.ensures),
    )

pub obey-requires-clause-spelled : goal.obey-requires-clause-spelled
obey-requires-clause-spelled c =
    loco_read c.in-Some.to c.in-Some.what c.args.frame.now c.requires.valid c.in-Some.ensures.found
