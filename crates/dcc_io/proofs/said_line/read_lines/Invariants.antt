use Rattle.std.proofs.Common.{[]}
use Rattle.dcc_io.specs.Items.{Gave}
use Rattle.dcc_io.specs.PacketLines.{lines_by}
use Rattle.dcc_io.proofs.said_line.read_lines.Given as goal

abbrev pub invariant-lines : goal.invariant-lines
invariant-lines g l = Gave (lines_by g.L.ParsedLine.saying) l.initial.input [] l.input

abbrev pub decreases-lines : goal.decreases-lines
decreases-lines g l = l.input.bytes
