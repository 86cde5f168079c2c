use Rattle.dcc_io.proofs.PassedLemmas.{Passed-join}
use Rattle.dcc_io.proofs.input.Input.pass_word_and_gap.Goals as goal

pub returns-then-begins_with_line_feed-clause-passed : goal.returns-then-begins_with_line_feed-clause-passed
returns-then-begins_with_line_feed-clause-passed g c =
    Passed-join c.pass_word.ensures.passed c.pass_line_feed.ensures.passed
