use Rattle.std.proofs.Common.{◌≡◌}
use Rattle.dcc_io.proofs.LineLemmas.{OpensLine}
use Rattle.dcc_io.proofs.input.Input.next_line.Given as goal

abbrev pub invariant-bytes : goal.invariant-bytes
invariant-bytes g l = (l.line.number ≡ l.initial.self.place.line) × OpensLine l.initial.self l.line.text.bytes l.self

abbrev pub decreases-bytes : goal.decreases-bytes
decreases-bytes g l = l.self.bytes
