use Rattle.dcc_io.proofs.FrontLemmas.{SpellsNumber-digit}
use Rattle.dcc_io.proofs.word.front_word.Goals as goal

pub loop-len-preserved : goal.loop-len-preserved
loop-len-preserved c =
    rw c.from.ensures
    (SpellsNumber-digit c.loop-len.us c.args.bytes.now c.loop-len.len c.loop-len-test.true c.loop-len.invariant
    c.if-us-lt10000.true c.if-byte-ge48.true c.if-byte-le57.true)
