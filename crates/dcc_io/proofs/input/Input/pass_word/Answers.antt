use Rattle.std.proofs.Common.{sym, refl, ◌∙◌}
use Rattle.dcc_io.proofs.FrontLemmas.{passes_word_at}
use Rattle.dcc_io.proofs.input.Input.pass_word.Goals as goal

pub returns-then-ends_line-clause-passed : goal.returns-then-ends_line-clause-passed
returns-then-ends_line-clause-passed g c =
    let known = rw (← c.self.view_is) at c.requires in
    rw (← c.self.view_is)
    (passes_word_at c.self.inside.source c.skip.new.self c.self.inside.bytes_left c.self.invariant.2 known.fault
    c.skip.ensures.failures _ _ _ known.no_comment known.room known.begins c.skip.ensures.text
    (rw (sym known.begins.ends ∙ c.if-ends_line.true) refl))

pub returns-else-ends_line-clause-passed : goal.returns-else-ends_line-clause-passed
returns-else-ends_line-clause-passed g c =
    let known = rw (← c.self.view_is) at c.requires in
    rw (← c.self.view_is)
    (passes_word_at c.self.inside.source c.skip.new.self c.self.inside.bytes_left c.self.invariant.2 known.fault
    c.skip.ensures.failures _ _ _ known.no_comment known.room known.begins c.skip.ensures.text
    (rw (sym known.begins.ends ∙ c.if-ends_line.false) refl))
