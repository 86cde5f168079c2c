use Rattle.dcc_io.proofs.FrontLemmas.{passes_line_feed_at}
use Rattle.dcc_io.proofs.input.Input.pass_line_feed.Goals as goal

pub returns-clause-passed : goal.returns-clause-passed
returns-clause-passed g c =
    let known = rw (← c.self.view_is) at c.requires in
    rw (← c.self.view_is)
    (passes_line_feed_at c.self.inside.source c.skip.new.self c.self.inside.bytes_left c.self.invariant.2 known.fault
    c.skip.ensures.failures known.no_comment known.room known.begins c.skip.ensures.text)
