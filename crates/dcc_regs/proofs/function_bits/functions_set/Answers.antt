use Rattle.std.proofs.Common.{refl, ap, ◌∙◌, arith}
use Rattle.std.specs.Prelude.{Some, None, false, if◌then◌else◌}
use Rattle.dcc_regs.proofs.MaskLemmas.{ones_to, lowest_alone}
use Rattle.dcc_regs.proofs.function_bits.functions_set.Goals as goal

pub returns-in-Reset-default-default : goal.returns-in-Reset-default-default
returns-in-Reset-default-default c n =
    c.new.ensures n
    ∙ rw (c.in-Loco.is, c.in-Reset-default-default.is-0) (ap (λ t. if t then Some false else None)
    (ones_to _ 68 n refl))

pub returns-in-Speed28-default-Steps14 : goal.returns-in-Speed28-default-Steps14
returns-in-Speed28-default-Steps14 c n =
    grind (arith, c.new-in-Speed28-default-Steps14.ensures n, lowest_alone)
