use Rattle.std.proofs.Common.{sym}
use Rattle.std.proofs.lemmas.List.{take_more, take_all}
use Rattle.dcc_regs.proofs.InParts.{heard_nothing, heard_one_more}
use Rattle.dcc_regs.proofs.applying.apply_all.Goals as goal

pub loop-packet-init : goal.loop-packet-init
loop-packet-init g c = heard_nothing _ _

pub loop-packet-preserved : goal.loop-packet-preserved
loop-packet-preserved g c =
    rw (
      take_more c.args.packets.now c.loop-packet.packet-index c.packet-item.result c.loop-packet-test.true,
      sym c.packet-item.is,
    )
    (heard_one_more _ c.packet-item.result _ _ _ _ _ _ c.loop-packet.invariant c.apply.ensures.same_who
    c.apply.ensures.step)

pub returns : goal.returns
returns g c = rw (sym (take_all _ _ c.loop-packet-test.false)) c.loop-packet.invariant
