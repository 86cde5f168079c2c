use Rattle.std.proofs.Common.{◌∙◌, arith, refl}
use Rattle.std.proofs.lemmas.List.{length-set}
use Rattle.dcc_io.proofs.ShortLemmas.{words_next, words_none}
use Rattle.dcc_io.proofs.short_words.short_words.Goals as goal

pub words-init : goal.words-init
words-init c = record {
  words = words_none _ _ _ _ c.requires.last;
  count = omega arith;
  same_len = refl;
}

pub words-preserved-in-Some-word_before_space : goal.words-preserved-in-Some-word_before_space
words-preserved-in-Some-word_before_space c =
    let now = c.words.invariant in
    let word = c.in-Some-word_before_space.word in
    let found = c.in-Some-word_before_space.ensures in
    let same = length-set c.words.halves c.words.words.count word.us in
    let some = c.words-test.true in
    record {
      words = words_next c.args.bytes.now c.words.halves c.args.line c.args.last _ _ _ _ _ word c.requires.line
          c.words-test.true found.word (rw found.ends_line refl) now.words;
      count = omega (arith, same);
      same_len = same ∙ now.same_len;
    }

pub words-preserved : goal.words-preserved
words-preserved c =
    let now = c.words.invariant in
    let word = c.in-Some-word_before_line_end.word in
    let found = c.in-Some-word_before_line_end.ensures in
    let same = length-set c.words.halves c.words.words.count word.us in
    let some = c.words-test.true in
    record {
      words = words_next c.args.bytes.now c.words.halves c.args.line c.args.last _ _ _ _ _ word c.requires.line
          c.words-test.true found.word (rw found.ends_line refl) now.words;
      count = omega (arith, same);
      same_len = same ∙ now.same_len;
    }
