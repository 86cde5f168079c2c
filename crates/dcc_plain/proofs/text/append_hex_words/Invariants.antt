use Rattle.std.proofs.Common.{◌≡◌, ◌≤◌, ◌+◌, ◌*◌, ◌++◌, take}
use Rattle.arrayvec.specs.ArrayVec.{array_vec_len}
use Rattle.dcc_plain.specs.StandardWords.{hex_words}
use Rattle.dcc_plain.proofs.text.append_hex_words.Given as goal

abbrev pub invariant-bytes : goal.invariant-bytes
invariant-bytes l =
    (l.text.items ≡ l.initial.text.items ++ hex_words (take l.byte-index l.bytes))
    × (array_vec_len l.text ≤ array_vec_len l.initial.text + 3 * l.byte-index)
