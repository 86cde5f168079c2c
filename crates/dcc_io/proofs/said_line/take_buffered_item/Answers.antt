use Rattle.std.proofs.Common.{sym, refl}
use Rattle.dcc_io.proofs.PacketLineLemmas.{answers_line}
use Rattle.dcc_io.proofs.said_line.take_buffered_item.Goals as goal

pub returns-in-Ok-clause-some : goal.returns-in-Ok-clause-some
returns-in-Ok-clause-some g c =
    let front = c.in_ok-line.ensures in
    answers_line g.L.ParsedLine.saying g.L.ParsedLine.as_said c.in-Ok.says
    (c.take_line.ensures.taken c.if-take_line.true c.in_ok-line.line.now front.begins refl) front.says
    (sym c.in-Ok.ensures)
