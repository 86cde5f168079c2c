use Rattle.std.proofs.Common.{ap}
use Rattle.std.proofs.lemmas.Result.{err_from_is_err_and}
use Rattle.dcc_io.specs.InputState.{InputState}
use Rattle.dcc_io.proofs.PassedLemmas.{Opens-word, Opens-none, Passed-join, Passed-gap, ends_behind_gaps, EndsWord-gap}
use Rattle.dcc_io.proofs.PassedLemmas.{Passed-end}
use Rattle.dcc_io.proofs.PassedLemmas.{answers_err, takes_noted, open_word}
use Rattle.dcc_io.proofs.input.Input.read_word.Goals as goal

pub returns-in-None : goal.returns-in-None
returns-in-None g c =
    let end = rw c.in-None.is at c.in_ok-byte.ensures in rw end.0 (Passed-end c.bytes.invariant end.1, end.1)

pub returns-in_err-byte : goal.returns-in_err-byte
returns-in_err-byte g c =
    let p = err_from_is_err_and c.from_residual.result c.from_residual.ensures.1 in
    rw (p.1, p.2) (answers_err _ _ c.bytes.invariant c.in_err-byte.ensures)

pub bytes-preserved-then-not-passes_gap : goal.bytes-preserved-then-not-passes_gap
bytes-preserved-then-not-passes_gap g c =
    let noted = takes_noted c.next_byte.new.self c.in-Some.is c.in_ok-byte.ensures c.passes_gap.ensures.place
    c.passes_gap.ensures.gap c.if-not-passes_gap.true in
    Opens-word c.bytes.invariant noted c.push.ensures

pub returns-then-not-is_empty : goal.returns-then-not-is_empty
returns-then-not-is_empty g c =
    let noted = takes_noted c.next_byte.new.self c.in-Some.is c.in_ok-byte.ensures c.passes_gap.ensures.place
    c.passes_gap.ensures.gap c.if-not-passes_gap.false in
    rw (ap (λ (i : InputState). i.place.line) c.self.view_is)
    (EndsWord-gap c.bytes.invariant noted (open_word c.bytes.invariant c.is_empty.ensures c.if-not-is_empty.true))

pub bytes-preserved : goal.bytes-preserved
bytes-preserved g c =
    let noted = takes_noted c.next_byte.new.self c.in-Some.is c.in_ok-byte.ensures c.passes_gap.ensures.place
    c.passes_gap.ensures.gap c.if-not-passes_gap.false in
    let none = open_word c.bytes.invariant c.is_empty.ensures c.if-not-is_empty.false in
    rw c.in_default.ensures.none
    (Opens-none c.bytes.invariant none (Passed-join (Passed-gap c.bytes.invariant noted none) c.pass_comment.ensures))

pub returns-in-Some-take_buffered_word : goal.returns-in-Some-take_buffered_word
returns-in-Some-take_buffered_word g c =
    let noted = takes_noted c.next_byte.new.self c.in-Some.is c.in_ok-byte.ensures c.passes_gap.ensures.place
    c.passes_gap.ensures.gap c.if-not-passes_gap.false in
    let none = open_word c.bytes.invariant c.is_empty.ensures c.if-not-is_empty.false in
    ends_behind_gaps (Passed-join (Passed-gap c.bytes.invariant noted none) c.pass_comment.ensures)
    c.in-Some-take_buffered_word.ensures.some
