use Rattle.std.proofs.Common.{refl, arith, ◌%◌}
use Rattle.std.proofs.lemmas.Bool.Decides.{nat_tests}
use Rattle.dcc_packet.proofs.BitLemmas.{shifted_one}
use Rattle.dcc_regs.proofs.MaskLemmas.{ones_to, one_at}
use Rattle.dcc_regs.proofs.outputs.signals_of.Goals as goal

pub returns-then-address-eq2047 : goal.returns-then-address-eq2047
returns-then-address-eq2047 c n = grind (arith, nat_tests, ones_to 15 3 n refl)

pub returns-else-address-eq2047 : goal.returns-else-address-eq2047
returns-else-address-eq2047 c n =
    grind (arith, nat_tests, one_at _ (c.args.address % 4) n (shifted_one (c.args.address % 4) (omega arith)))
