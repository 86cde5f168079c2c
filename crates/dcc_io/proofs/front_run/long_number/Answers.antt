use Rattle.dcc_io.proofs.FrontLemmas.{SpellsNumber-digit}
use Rattle.dcc_io.proofs.front_run.long_number.Goals as goal

pub loop-len-preserved : goal.loop-len-preserved
loop-len-preserved c =
    rw c.from.ensures
    (SpellsNumber-digit c.loop-len.number c.args.bytes.now c.loop-len.len c.loop-len-test.true c.loop-len.invariant
    c.if-number-lt10000.true c.if-byte-ge48.true c.if-byte-le57.true)
