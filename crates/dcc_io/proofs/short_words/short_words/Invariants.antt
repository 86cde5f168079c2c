use Rattle.std.proofs.Common.{◌≡◌, ◌≤◌, ◌-◌, length}
use Rattle.dcc_io.proofs.ShortLemmas.{WordsTaken}
use Rattle.dcc_io.proofs.short_words.short_words.Given as goal

abbrev pub invariant-words : goal.invariant-words
invariant-words l = record {
  words : WordsTaken l.bytes l.fn.line l.fn.last l.halves l.words.count l.words.len l.words.line l.words.last;
  count : l.words.count ≤ length l.halves;
  same_len : length l.halves ≡ length l.initial.halves;
}

abbrev pub decreases-words : goal.decreases-words
decreases-words l = length l.halves - l.words.count
