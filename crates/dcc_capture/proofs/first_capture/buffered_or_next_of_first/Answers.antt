use Rattle.dcc_capture.proofs.HalfLemmas.{first_run_taken}
use Rattle.dcc_capture.proofs.first_capture.buffered_or_next_of_first.Goals as goal

pub returns-in-Some : goal.returns-in-Some
returns-in-Some g c =
    rw c.line_of_next_byte-line.ensures (first_run_taken c.args.before c.requires c.in-Some.ensures.some)
