use Rattle.std.proofs.Common.{◌≤◌, length, arith}
use Rattle.dcc_what.proofs.LinesLemmas.{no_bad_word}
use Rattle.dcc_what.proofs.lines.bad_word.Goals as goal

pub returns : goal.returns
returns c =
    let past : length c.args.line.now ≤ c.words.place = omega (arith, c.words-test.false, c.len_of-most.ensures) in
    no_bad_word c.args.line.now c.words.words c.words.place c.words.invariant.0 c.words.invariant.1 past
