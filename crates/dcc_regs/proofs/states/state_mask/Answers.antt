use Rattle.std.proofs.Common.{refl, arith}
use Rattle.std.proofs.lemmas.Bool.Decides.{nat_tests}
use Rattle.dcc_regs.proofs.Packing.{shifted_one_128}
use Rattle.dcc_regs.proofs.MaskLemmas.{all_states, one_at}
use Rattle.dcc_regs.proofs.states.state_mask.Goals as goal

pub returns-then-number-eq0 : goal.returns-then-number-eq0
returns-then-number-eq0 c n = grind (arith, nat_tests, all_states _ n refl)

pub returns-else-number-eq0 : goal.returns-else-number-eq0
returns-else-number-eq0 c n =
    grind (arith, nat_tests, one_at _ c.args.number n (shifted_one_128 c.args.number c.requires))
