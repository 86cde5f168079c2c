use Rattle.std.proofs.Common.{◌-◌, arith, length, drop, take, refl, length-drop}
use Rattle.dcc_io.specs.Inner.AheadInput.{Behind}
use Rattle.dcc_io.proofs.ShortLemmas.{is_open, rest_of, state_ahead, takes_between, text_ahead, text_behind}
use Rattle.dcc_io.proofs.input.Input.take_short_halves.Goals as goal

pub short_words-words-requires-clause-line : goal.short_words-words-requires-clause-line
short_words-words-requires-clause-line g c =
    let not_closed = is_open c.self.inside.closed c.self.inside.source.ahead c.ahead-ahead.result.now c.is_empty.result
    c.self.invariant.2 c.ahead-ahead.ensures.bytes c.is_empty.ensures c.if-is_empty.false in
    let room = rw not_closed at c.self.invariant.0 in
    omega (arith, room, c.if-self-ahead.false)

pub returns-clause-taken : goal.returns-clause-taken
returns-clause-taken g c =
    let inside = c.self.inside in
    let source = inside.source in
    let words = c.short_words-words.result in
    let same = c.ahead-ahead.ensures.bytes in
    let not_closed = is_open inside.closed source.ahead c.ahead-ahead.result.now c.is_empty.result c.self.invariant.2
    same c.is_empty.ensures c.if-is_empty.false in
    let starts = c.ahead-ahead.ensures.front in
    let fits = rw same at c.if-self-ahead.false in
    let len = rw same at c.short_words-words.ensures.len in
    let fault = rw (← c.self.view_is) at c.requires.fault in
    let no_comment = rw (← c.self.view_is) at c.requires.no_comment in
    let behind : Behind = record {
      rest = rest_of source.ahead source.text starts;
      failures = source.failures;
      spare = inside.bytes_left - length source.ahead;
    } in
    let taken = rw (same, c.from.ensures) at
    (c.short_words-words.ensures.words behind inside.halves_left (omega (arith, fits)) c.if-self-halves.false) in
    let start = state_ahead behind source source.ahead inside.line inside.lines inside.halves_left inside.bytes_left
    inside.in_comment inside.closed inside.fault refl (text_ahead source.ahead source.text starts) refl no_comment
    not_closed fault (omega (arith, fits)) in
    let end = state_ahead behind c.skip.new.self (drop words.len source.ahead) words.line words.last
    (inside.halves_left - words.count) (inside.bytes_left - words.len) inside.in_comment inside.closed inside.fault
    c.skip.ensures.ahead
    (text_behind source.ahead words.len source.text c.skip.new.self.text starts c.skip.ensures.text
    c.skip.ensures.unknown) c.skip.ensures.failures no_comment not_closed fault
    (omega (arith, fits, len, length-drop words.len source.ahead)) in
    rw (← c.self.view_is) (takes_between (take words.count c.short_words-words.new.halves) start end taken)
