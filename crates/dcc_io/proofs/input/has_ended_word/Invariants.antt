use Rattle.dcc_io.proofs.HandLemmas.{LooksBehind}
use Rattle.dcc_io.proofs.input.has_ended_word.Given as goal

abbrev pub invariant-loop-byte : goal.invariant-loop-byte
invariant-loop-byte l = LooksBehind l.fn.in_comment l.bytes l.byte-index l.in_comment l.in_word
