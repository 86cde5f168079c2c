use Rattle.std.proofs.Common.{take}
use Rattle.dcc_io.specs.Inner.FrontRuns.{SpellsNumber}
use Rattle.dcc_io.proofs.word.front_word.Given as goal

abbrev pub invariant-loop-len : goal.invariant-loop-len
invariant-loop-len l = SpellsNumber l.us (take l.len l.bytes)
