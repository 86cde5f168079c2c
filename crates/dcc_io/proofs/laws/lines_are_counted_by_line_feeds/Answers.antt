use Rattle.dcc_io.proofs.LineCounts.{lines_counted}
use Rattle.dcc_io.proofs.laws.lines_are_counted_by_line_feeds.Goals as goal

pub returns : goal.returns
returns c = lines_counted
