use Rattle.std.proofs.Common.{arith}
use Rattle.dcc_wire.proofs.StepLemmas.{word_of_three, word_of_four, word_of_five, word_of_six}
use Rattle.dcc_wire.proofs.halves.body_word.Goals as goal

pub returns-then-len-eq3-clause-bits : goal.returns-then-len-eq3-clause-bits
returns-then-len-eq3-clause-bits c =
    word_of_three c.args.bytes.now c.requires _ _ _ c.from.ensures c.from-2.ensures c.from-3.ensures
    (omega (arith, c.if-len-eq3.true, c.requires.most))

pub returns-then-len-eq4-clause-bits : goal.returns-then-len-eq4-clause-bits
returns-then-len-eq4-clause-bits c =
    word_of_four c.args.bytes.now c.requires _ _ _ c.from.ensures c.from-2.ensures c.from-3.ensures _ c.from-4.ensures
    (omega (arith, c.if-len-eq4.true, c.requires.most))

pub returns-then-len-eq5-clause-bits : goal.returns-then-len-eq5-clause-bits
returns-then-len-eq5-clause-bits c =
    word_of_five c.args.bytes.now c.requires _ _ _ c.from.ensures c.from-2.ensures c.from-3.ensures _ c.from-4.ensures _
    c.from-5.ensures (omega (arith, c.if-len-eq5.true, c.requires.most))

pub returns-clause-bits : goal.returns-clause-bits
returns-clause-bits c =
    word_of_six c.args.bytes.now c.requires _ _ _ c.from.ensures c.from-2.ensures c.from-3.ensures _ c.from-4.ensures _
    c.from-5.ensures _ c.from-6.ensures
    (omega (arith, c.if-len-eq3.false, c.if-len-eq4.false, c.if-len-eq5.false, c.requires.least, c.requires.most))
