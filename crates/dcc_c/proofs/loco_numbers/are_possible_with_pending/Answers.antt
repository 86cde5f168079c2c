use Rattle.std.proofs.Common.{arith, ◌/◌, ◌%◌}
use Rattle.std.specs.Prelude.{◌==◌}
use Rattle.std.proofs.lemmas.Bool.Decides.{nat_tests}
use Rattle.dcc_c.proofs.PossibleNumbers.{all_three, registers_of}
use Rattle.dcc_c.proofs.loco_numbers.are_possible_with_pending.Goals as goal

pub returns-clause-possible : goal.returns-clause-possible
returns-clause-possible c true own pending has held p =
    let all = all_three c.has_speed.result (c.bits_of-functions.result / 590295810358705651712 == 0)
    (c.bits_of-states.result % 2 == 0) true in
    let s = c.has_speed.ensures.speed all.0 in
    let small = all.1 in
    registers_of c.args.numbers.now own s.0 c.bits_of-functions.result c.bits_of-states.result pending has s.1 s.2 s.3
    c.bits_of-functions.ensures.words (grind (arith, nat_tests)) c.bits_of-states.ensures.words all.2 held p
