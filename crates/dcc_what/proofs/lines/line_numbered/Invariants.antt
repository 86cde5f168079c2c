use Rattle.std.proofs.Common.{◌≡◌, length}
use Rattle.dcc_what.specs.Lines.{line_numbered, lines_of}
use Rattle.dcc_what.proofs.lines.line_numbered.Given as goal

abbrev pub invariant-lines : goal.invariant-lines
invariant-lines l = line_numbered l.number (lines_of l.text) ≡ line_numbered l.left (lines_of l.rest)

abbrev pub decreases-lines : goal.decreases-lines
decreases-lines l = length l.rest
