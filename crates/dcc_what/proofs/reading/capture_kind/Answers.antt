use Rattle.dcc_what.proofs.KindLemmas.{capture_measured, kind_of_capture, kind_of_marked_capture, kind_of_long_capture}
use Rattle.dcc_what.proofs.reading.capture_kind.Goals as goal

pub returns-in-Ok : goal.returns-in-Ok
returns-in-Ok c =
    let read = capture_measured c.args.bytes.now c.input_of-input.result c.measure.new.input c.in-Ok.figures
    c.input_of-input.ensures c.in-Ok.ensures in
    let are = c.timings-timings.ensures _ read.1 in
    rw c.from.ensures (kind_of_capture c.args.bytes.now c.halves-halves.result c.count-above.result read.0
    (c.halves-halves.ensures.length _ are) (c.count-above.ensures _ (c.classes.ensures _ are).above))

pub returns-in-Err-Number : goal.returns-in-Err-Number
returns-in-Err-Number c =
    let kind = kind_of_marked_capture c.args.bytes.now c.input_of-input.result c.measure.new.input
    c.in-Err-Number.line c.input_of-input.ensures (rw c.in-Err-Number.field-0-is at c.in-Err-Number.ensures) in
    rw kind at c.marked_kind.ensures

pub returns-in-Err-TooMuch : goal.returns-in-Err-TooMuch
returns-in-Err-TooMuch c =
    kind_of_long_capture c.args.bytes.now c.input_of-input.result c.measure.new.input c.input_of-input.ensures
    (rw c.in-Err-TooMuch.field-0-is at c.in-Err-TooMuch.ensures)
