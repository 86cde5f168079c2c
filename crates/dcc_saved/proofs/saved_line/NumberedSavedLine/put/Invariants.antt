use Rattle.std.proofs.Common.{◌≡◌, ◌+◌, ◌*◌, ◌≤◌, ◌++◌}
use Rattle.arrayvec.specs.ArrayVec.{array_vec_len}
use Rattle.dcc_packet.specs.Written.{spaced_words}
use Rattle.dcc_saved.specs.DecoderLines.{numbers_on}
use Rattle.dcc_saved.proofs.saved_line.NumberedSavedLine.put.Given as goal

abbrev pub invariant-loop-n : goal.invariant-loop-n
invariant-loop-n l =
    (l.rows.items ≡ l.initial.rows.items ++ spaced_words (numbers_on 0 l.n l.bits))
    × (array_vec_len l.rows ≤ array_vec_len l.fn.rows + 6 + 11 * l.n)
