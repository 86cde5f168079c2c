use Rattle.std.proofs.Common.{List}
use Rattle.dcc_io.specs.Items.{Gave}
use Rattle.dcc_io.specs.PacketLines.{lines_by}
use Rattle.dcc_what.specs.Kinds.{input_of_bytes}
use Rattle.dcc_what.proofs.reading.fault_of_lines.Given as goal

abbrev pub invariant-lines : goal.invariant-lines
invariant-lines g l =
    (items : List g.L.ParsedLine.Item) × Gave (lines_by g.L.ParsedLine.saying) (input_of_bytes l.bytes) items l.input

abbrev pub decreases-lines : goal.decreases-lines
decreases-lines g l = l.input.bytes
