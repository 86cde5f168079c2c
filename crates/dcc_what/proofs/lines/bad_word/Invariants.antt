use Rattle.std.proofs.Common.{◌≡◌, ◌+◌, ◌-◌, length}
use Rattle.dcc_packet.specs.Words.{words}
use Rattle.dcc_what.specs.Lines.{first_bad}
use Rattle.dcc_what.proofs.lines.bad_word.Given as goal

abbrev pub invariant-words : goal.invariant-words
invariant-words l =
    (first_bad 1 (words l.line) ≡ first_bad (l.place + 1) l.words) × (l.place + length l.words ≡ length (words l.line))

abbrev pub decreases-words : goal.decreases-words
decreases-words l = length l.line - l.place
