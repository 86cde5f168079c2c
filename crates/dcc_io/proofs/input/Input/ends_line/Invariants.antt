use Rattle.dcc_io.proofs.PassedLemmas.{OpensHere}
use Rattle.dcc_io.proofs.input.Input.ends_line.Given as goal

abbrev pub invariant-bytes : goal.invariant-bytes
invariant-bytes g l = OpensHere l.initial.self l.word l.self

abbrev pub decreases-bytes : goal.decreases-bytes
decreases-bytes g l = l.self.bytes
