use Rattle.std.proofs.Common.{◌≡◌, ◌+◌, ◌-◌, ◌*◌, ◌≤◌, ◌++◌, length, take}
use Rattle.dcc_wire.specs.Bodies.{bits_of}
use Rattle.dcc_send.proofs.BitLemmas.{text_of}
use Rattle.dcc_send.proofs.encoded_line.put_byte.Given as goal

abbrev pub invariant-loop-place : goal.invariant-loop-place
invariant-loop-place l = record {
  written : take l.end l.line ++ text_of l.texts.timing (bits_of (8 - l.place) l.byte)
      ≡ take l.fn.at l.fn.line ++ text_of l.texts.timing (bits_of 8 l.byte);
  few : l.end ≤ l.fn.at + 12 * l.place;
}
