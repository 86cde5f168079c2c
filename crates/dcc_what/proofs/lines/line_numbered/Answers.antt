use Rattle.std.proofs.Common.{◌≡◌, ◌<◌, ◌≤◌, ◌∙◌, eqb, false, true, length, refl, sym, arith}
use Rattle.std.proofs.lemmas.Bool.{ne_eqb}
use Rattle.dcc_what.proofs.LinesLemmas.{numbered_here, numbered_next, numbered_nowhere}
use Rattle.dcc_what.proofs.lines.line_numbered.Goals as goal

pub returns-then-left-eq1 : goal.returns-then-left-eq1
returns-then-left-eq1 c =
    let one : eqb c.lines.left 1 ≡ true = rw c.if-left-eq1.true refl in
    sym (c.lines.invariant ∙ numbered_here c.lines.rest.now c.line_len-len.result c.lines.left
    c.line_len-len.ensures.place one ∙ sym c.without_comment.ensures)

pub returns-then-len-len_of : goal.returns-then-len-len_of
returns-then-len-len_of c =
    let other : eqb c.lines.left 1 ≡ false = ne_eqb _ _ c.if-left-eq1.false in
    let whole : length c.lines.rest.now ≤ c.line_len-len.result =
    omega (arith, c.if-len-len_of.true, c.len_of.ensures) in
    sym (c.lines.invariant ∙ numbered_nowhere c.lines.rest.now c.line_len-len.result c.lines.left
    c.line_len-len.ensures.place whole other)

pub lines-preserved : goal.lines-preserved
lines-preserved c =
    let other : eqb c.lines.left 1 ≡ false = ne_eqb _ _ c.if-left-eq1.false in
    let more : c.line_len-len.result < length c.lines.rest.now =
    let bound = c.line_len-len.ensures.bound in
    let unlike = c.if-len-len_of.false in
    let is = c.len_of.ensures in grind arith in
    rw (c.split_at.ensures.back, c.saturating_sub-left.ensures)
    (c.lines.invariant ∙ numbered_next c.lines.rest.now c.line_len-len.result c.lines.left
    c.line_len-len.ensures.place more other)
