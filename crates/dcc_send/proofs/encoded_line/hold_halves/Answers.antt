use Rattle.std.proofs.Common.{◌≡◌, ◌+◌, ◌<◌, ◌++◌, length, arith}
use Rattle.dcc_wire.specs.Sending.{sent}
use Rattle.dcc_wire.proofs.SendingLemmas.{length-sent}
use Rattle.dcc_send.proofs.BitLemmas.{line_of, preamble_kept}
use Rattle.dcc_send.proofs.encoded_line.hold_halves.Goals as goal

pub returns-clause-halves : goal.returns-clause-halves
returns-clause-halves g c =
    let frame = c.args.frame.now in
    let timing = c.args.texts.now.timing in
    let halves = sent frame timing in
    let some : 0 < length halves = omega (arith, length-sent frame timing) in
    rw (← line_of c.put_halves-len.new.line c.put_halves-len.result halves
    (omega (arith, c.put_halves-len.ensures.few, c.put_halves-len.array_long)) some c.put_halves-len.ensures.items)
    c.hold.ensures

pub returns-clause-preamble : goal.returns-clause-preamble
returns-clause-preamble g c =
    preamble_kept c.args.texts.now.timing c.args.frame.now c.args.line.now c.put_halves-len.new.line c.args.preamble_len
    c.put_halves-len.result (omega (arith, c.put_halves-len.auto.line, c.put_halves-len.array_long, c.requires.short))
    (omega (arith, c.put_halves-len.ensures.few, c.put_halves-len.array_long)) c.requires.preamble
    c.put_halves-len.ensures.items
