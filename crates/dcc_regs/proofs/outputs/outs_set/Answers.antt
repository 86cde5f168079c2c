use Rattle.std.proofs.Common.{◌∙◌, arith}
use Rattle.dcc_regs.proofs.MaskLemmas.{whole_byte, byte_place}
use Rattle.dcc_regs.proofs.outputs.outs_set.Goals as goal

pub returns-in-Loco-Broadcast-Reset : goal.returns-in-Loco-Broadcast-Reset
returns-in-Loco-Broadcast-Reset c n = grind (arith, c.new.ensures n, whole_byte n)

pub returns-in-Accessory : goal.returns-in-Accessory
returns-in-Accessory c n =
    rw c.in-Accessory.is
    (c.new-in-Accessory.ensures n
    ∙ byte_place c.number.result n c.in-Accessory.output.number c.in-Accessory.on c.number.ensures.value
    c.number.ensures.in_range)
