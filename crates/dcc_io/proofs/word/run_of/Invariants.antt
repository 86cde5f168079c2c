use Rattle.std.proofs.Common.{take}
use Rattle.dcc_io.specs.SpelledWords.{Spells}
use Rattle.dcc_io.proofs.word.run_of.Given as goal

abbrev pub invariant-loop-len : goal.invariant-loop-len
invariant-loop-len l = Spells l.so_far (take l.len l.word)
