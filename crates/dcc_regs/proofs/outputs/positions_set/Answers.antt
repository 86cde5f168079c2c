use Rattle.std.proofs.Common.{ap, arith, ◌/◌, ◌%◌}
use Rattle.std.specs.Prelude.{◌==◌}
use Rattle.dcc_regs.proofs.MaskLemmas.{byte_place}
use Rattle.dcc_regs.proofs.outputs.positions_set.Goals as goal

pub returns-in-Accessory-default-default-true : goal.returns-in-Accessory-default-default-true
returns-in-Accessory-default-default-true c n =
    let at = byte_place (c.number-output.result / 2) n (c.in-Accessory-default-default-true.output.number / 2)
    (c.number-output.result % 2 == 1)
    (ap (λ x. x / 2) c.number-output.ensures.value) (let r = c.number-output.ensures.in_range in omega arith) in
    grind (arith, c.new.ensures n, at)
