use Rattle.std.proofs.Common.{◌≡◌, ◌≤◌, ◌++◌, ◌∙◌, List, ℕ, length, take, ap, sym, arith}
use Rattle.std.proofs.lemmas.List.{take_all}
use Rattle.std.proofs.lemmas.Grind.{common_steps}
use Rattle.dcc_what.proofs.LinesLemmas.{short_word}
use Rattle.dcc_what.proofs.sentence.append_word.Goals as goal

pub returns-else-shown-word-clause-items : goal.returns-else-shown-word-clause-items
returns-else-shown-word-clause-items c =
    let word = c.args.word.now in
    let fits = c.if-shown-word.false in
    let is = c.min-shown.ensures in
    let short : length word ≤ 32 = grind (arith, common_steps) in
    let whole : take c.min-shown.result word ≡ word = take_all c.min-shown.result word fits in
    rw (whole) at c.append_bytes.ensures.items
    ∙ ap (λ (text : List ℕ). c.args.text.now.items ++ text) (sym (short_word word short))
