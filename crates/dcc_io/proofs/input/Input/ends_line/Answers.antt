use Rattle.std.proofs.lemmas.Result.{err_from_is_err_and}
use Rattle.dcc_io.proofs.PassedLemmas.{OpensHere-word, OpensHere-gap, ends_here, ends_in_word, answers_err, takes_noted}
use Rattle.dcc_io.proofs.PassedLemmas.{open_word}
use Rattle.dcc_io.proofs.input.Input.ends_line.Goals as goal

pub returns-in_err-byte : goal.returns-in_err-byte
returns-in_err-byte g c =
    let p = err_from_is_err_and c.from_residual.result c.from_residual.ensures.1 in
    rw (p.1, p.2) (answers_err _ _ c.bytes.invariant.opens c.in_err-byte.ensures)

pub bytes-preserved-then-not-passes_gap : goal.bytes-preserved-then-not-passes_gap
bytes-preserved-then-not-passes_gap g c =
    let noted = takes_noted c.next_byte.new.self c.in-Some.is c.in_ok-byte.ensures c.passes_gap.ensures.place
    c.passes_gap.ensures.gap c.if-not-passes_gap.true in
    OpensHere-word c.bytes.invariant noted c.push.ensures

pub returns-then-not-is_empty : goal.returns-then-not-is_empty
returns-then-not-is_empty g c =
    let noted = takes_noted c.next_byte.new.self c.in-Some.is c.in_ok-byte.ensures c.passes_gap.ensures.place
    c.passes_gap.ensures.gap c.if-not-passes_gap.false in
    ends_in_word c.bytes.invariant noted (open_word c.bytes.invariant.opens c.is_empty.ensures c.if-not-is_empty.true)

pub returns-then-byte-eq10 : goal.returns-then-byte-eq10
returns-then-byte-eq10 g c =
    let noted = takes_noted c.next_byte.new.self c.in-Some.is c.in_ok-byte.ensures c.passes_gap.ensures.place
    c.passes_gap.ensures.gap c.if-not-passes_gap.false in
    ends_here c.bytes.invariant noted (open_word c.bytes.invariant.opens c.is_empty.ensures c.if-not-is_empty.false)
    c.if-byte-eq10.true

pub bytes-preserved : goal.bytes-preserved
bytes-preserved g c =
    let noted = takes_noted c.next_byte.new.self c.in-Some.is c.in_ok-byte.ensures c.passes_gap.ensures.place
    c.passes_gap.ensures.gap c.if-not-passes_gap.false in
    OpensHere-gap c.bytes.invariant noted
    (open_word c.bytes.invariant.opens c.is_empty.ensures c.if-not-is_empty.false) c.if-byte-eq10.false
