use Rattle.std.proofs.Common.{rules}
use Rattle.dcc_saved.proofs.ReadLemmas.{line-missed, line-read, line-refused}
use Rattle.dcc_saved.proofs.decoder_text.read_line.Goals as goal

pub returns-in_err-taken-clause-reads : goal.returns-in_err-taken-clause-reads
returns-in_err-taken-clause-reads g c = search (rules, line-missed)

pub returns-in-Ok-clause-reads : goal.returns-in-Ok-clause-reads
returns-in-Ok-clause-reads g c =
    search (rules, line-read (g.L.SavedLine.line c.args.line) c.read.ensures.blank _ _ _ _ c.in_ok-taken.ensures)

pub returns-in-Err-clause-reads : goal.returns-in-Err-clause-reads
returns-in-Err-clause-reads g c =
    search (rules, line-refused (g.L.SavedLine.line c.args.line) c.read.ensures.blank _ _ _ _ c.in_ok-taken.ensures)
