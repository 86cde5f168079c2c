use Rattle.std.proofs.Common.{◌≡◌, ◌<◌, ◌≤◌, ◌∙◌, [], length, sym, arith}
use Rattle.dcc_packet.specs.Words.{words}
use Rattle.dcc_what.proofs.LinesLemmas.{line_with_words, line_without_words, no_line_with_words}
use Rattle.dcc_what.proofs.lines.first_with_word.Goals as goal

pub returns-in-Some : goal.returns-in-Some
returns-in-Some c =
    let line = c.without_comment-line.result.now in
    let some = sym c.new.ensures ∙ c.in-Some.ensures in
    sym (c.lines.invariant ∙ line_with_words c.lines.rest.now line c.line_len-len.result _ _
    c.line_len-len.ensures.place c.without_comment-line.ensures some)

pub returns-in-None : goal.returns-in-None
returns-in-None c =
    let line = c.without_comment-line.result.now in
    let none : words line ≡ [] = sym c.new.ensures ∙ c.in-None.ensures.0 in
    let whole : length c.lines.rest.now ≤ c.line_len-len.result =
    omega (arith, c.if-len-len_of.true, c.len_of.ensures) in
    sym (c.lines.invariant ∙ no_line_with_words c.lines.rest.now line c.line_len-len.result c.line_len-len.ensures.place
    c.without_comment-line.ensures none whole)

pub lines-preserved : goal.lines-preserved
lines-preserved c =
    let line = c.without_comment-line.result.now in
    let none : words line ≡ [] = sym c.new.ensures ∙ c.in-None-2.ensures.0 in
    let more : c.line_len-len.result < length c.lines.rest.now =
    let bound = c.line_len-len.ensures.bound in
    let other = c.if-len-len_of.false in
    let is = c.len_of.ensures in grind arith in
    rw c.split_at.ensures.back (c.lines.invariant ∙ line_without_words c.lines.rest.now line c.line_len-len.result
    c.line_len-len.ensures.place c.without_comment-line.ensures none more)
