use Rattle.std.proofs.Common.{arith, ap, length}
use Rattle.dcc_timing.specs.Recent.{recent_numbers}
use Rattle.dcc_lost.proofs.FigureLemmas.{preamble_found}
use Rattle.dcc_lost.proofs.figures.preamble_before.Goals as goal

pub returns-in-Some : goal.returns-in-Some
returns-in-Some c = λ durations is.
    preamble_found durations (recent_numbers c.args.preambles.now) c.last.result.now c.bytes.result.now
    c.in-Some.frame c.args.frame c.first_or_zero.result is
    (omega (arith, ap length c.bytes.ensures.value, c.bytes.ensures.valid.most)) c.bytes.ensures.value
    c.last.ensures c.first_or_zero.ensures c.in-Some.is
