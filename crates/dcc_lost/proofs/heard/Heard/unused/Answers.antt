use Rattle.std.proofs.Common.{true, false, sym, ◌∙◌}
use Rattle.dcc_lost.proofs.UsedLemmas.{unused_is}
use Rattle.dcc_lost.proofs.heard.Heard.unused.Goals as goal

pub returns-then-is_hunting-clause-unused : goal.returns-then-is_hunting-clause-unused
returns-then-is_hunting-clause-unused c = λ durations hears.
    unused_is durations _ _ _ true hears (sym c.if-is_hunting.true ∙ c.is_hunting.ensures)

pub returns-else-is_hunting-clause-unused : goal.returns-else-is_hunting-clause-unused
returns-else-is_hunting-clause-unused c = λ durations hears.
    unused_is durations _ _ _ false hears (sym c.if-is_hunting.false ∙ c.is_hunting.ensures)
