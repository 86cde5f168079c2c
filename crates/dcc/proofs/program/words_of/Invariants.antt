use Rattle.std.proofs.Common.{map, string_bytes}
use Rattle.dcc.specs.Program.{BeginsWithName}
use Rattle.dcc.proofs.program.words_of.Given as goal

abbrev pub invariant-loop-word : goal.invariant-loop-word
invariant-loop-word g l = BeginsWithName (map string_bytes l.words.items)
