use Rattle.std.proofs.Common.{take, get_or, arith}
use Rattle.dcc_io.proofs.LineFeedLemmas.{within_line, of_one_line, all_ascii, is_feed}
use Rattle.dcc_io.proofs.FrontLemmas.{ends_line}
use Rattle.dcc_io.proofs.text_line.ended_line_len.Goals as goal

pub returns-then-is_ascii : goal.returns-then-is_ascii
returns-then-is_ascii c =
    let found = c.in_ok-len.ensures in
    let within = found.0.high in
    let bytes = c.args.bytes.now in
    let len = c.in_ok-len.len in
    ends_line bytes len within c.if-len-le512.true (all_ascii (take len bytes) c.if-is_ascii.ensures.cases)
    (of_one_line (take len bytes) (within_line bytes len (omega (arith, within)) found.0.before))
    (is_feed (get_or bytes len 0) found.1)
