use Rattle.std.proofs.Common.{◌≡◌, length}
use Rattle.dcc_what.specs.Lines.{first_with_word, lines_of}
use Rattle.dcc_what.proofs.lines.first_with_word.Given as goal

abbrev pub invariant-lines : goal.invariant-lines
invariant-lines l = first_with_word (lines_of l.text) ≡ first_with_word (lines_of l.rest)

abbrev pub decreases-lines : goal.decreases-lines
decreases-lines l = length l.rest
