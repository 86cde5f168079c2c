use Rattle.dcc_io.proofs.SpellsLemmas.{mark_of}
use Rattle.dcc_io.proofs.word.RunWord.is_mark.Goals as goal

pub returns-then-self : goal.returns-then-self
returns-then-self c word spells = mark_of c.args.self.now word c.len.result c.if-self.true c.len.ensures spells
