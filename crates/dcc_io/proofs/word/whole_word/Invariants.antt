use Rattle.std.proofs.Common.{◌≡◌, true, take}
use Rattle.std.specs.List.{list_all}
use Rattle.dcc_io.specs.Inner.FrontWords.{is_word_byte}
use Rattle.dcc_io.specs.SpelledWords.{Spells}
use Rattle.dcc_io.proofs.word.whole_word.Given as goal

abbrev pub invariant-loop-len : goal.invariant-loop-len
invariant-loop-len l = record {
  plain : list_all is_word_byte (take l.len l.bytes) ≡ true;
  spelled : Spells l.word (take l.len l.bytes);
}
