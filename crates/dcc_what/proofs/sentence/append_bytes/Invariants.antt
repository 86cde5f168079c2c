use Rattle.std.proofs.Common.{◌≡◌, ◌≤◌, ◌+◌, ◌*◌, ◌++◌, take}
use Rattle.std.specs.List.{flat_map}
use Rattle.arrayvec.specs.ArrayVec.{array_vec_len}
use Rattle.dcc_what.specs.Sentences.{shown_byte}
use Rattle.dcc_what.proofs.sentence.append_bytes.Given as goal

abbrev pub invariant-loop-at : goal.invariant-loop-at
invariant-loop-at l = record {
  items : l.text.items ≡ l.initial.text.items ++ flat_map shown_byte (take l.at l.bytes);
  len : array_vec_len l.text ≤ array_vec_len l.initial.text + 4 * l.at;
}
