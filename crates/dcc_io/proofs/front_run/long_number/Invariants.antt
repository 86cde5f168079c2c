use Rattle.std.proofs.Common.{take}
use Rattle.dcc_io.specs.Inner.FrontRuns.{SpellsNumber}
use Rattle.dcc_io.proofs.front_run.long_number.Given as goal

abbrev pub invariant-loop-len : goal.invariant-loop-len
invariant-loop-len l = SpellsNumber l.number (take l.len l.bytes)
