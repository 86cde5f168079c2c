use Rattle.dcc_io.proofs.PassedLemmas.{Opens}
use Rattle.dcc_io.proofs.input.Input.read_word.Given as goal

abbrev pub invariant-bytes : goal.invariant-bytes
invariant-bytes g l = Opens l.initial.self l.word l.self

abbrev pub decreases-bytes : goal.decreases-bytes
decreases-bytes g l = l.self.bytes
