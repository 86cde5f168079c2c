use Rattle.dcc_what.proofs.KindLemmas.{kind_of_bad_captures, kind_of_lacking_mark, kind_of_long_captures}
use Rattle.dcc_what.proofs.KindLemmas.{kind_of_two_captures}
use Rattle.dcc_what.proofs.reading.marked_kind.Goals as goal

pub returns-in-Ok : goal.returns-in-Ok
returns-in-Ok c =
    let read = c.in-Ok.ensures.compared in
    kind_of_two_captures c.args.bytes.now c.input_of-input.result c.compare_both.new.input read.0 read.1 c.args.line
    c.input_of-input.ensures read.2

pub returns-in-Err-Number : goal.returns-in-Err-Number
returns-in-Err-Number c =
    kind_of_bad_captures c.args.bytes.now c.input_of-input.result c.compare_both.new.input c.args.line
    c.in-Err-Number.line c.input_of-input.ensures (rw c.in-Err-Number.field-0-is at c.in-Err-Number.ensures.fails)

pub returns-in-Err-Line : goal.returns-in-Err-Line
returns-in-Err-Line c =
    kind_of_lacking_mark c.args.bytes.now c.input_of-input.result c.compare_both.new.input c.args.line
    c.in-Err-Line.field-0-0 c.in-Err-Line.field-0-1 c.input_of-input.ensures
    (rw c.in-Err-Line.field-0-is at c.in-Err-Line.ensures.fails)

pub returns-in-Err-TooMuch : goal.returns-in-Err-TooMuch
returns-in-Err-TooMuch c =
    kind_of_long_captures c.args.bytes.now c.input_of-input.result c.compare_both.new.input c.args.line
    c.input_of-input.ensures (rw c.in-Err-TooMuch.field-0-is at c.in-Err-TooMuch.ensures.fails)
