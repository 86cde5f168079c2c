use Rattle.std.proofs.Common.{◌≡◌, ◌+◌, ◌*◌, ◌≤◌, ◌++◌, drop, take}
use Rattle.dcc_wire.specs.Bodies.{body_bits}
use Rattle.dcc_wire.specs.Sending.{sent_bits}
use Rattle.dcc_send.proofs.BitLemmas.{text_of}
use Rattle.dcc_send.proofs.encoded_line.put_halves.Given as goal

abbrev pub invariant-loop-byte : goal.invariant-loop-byte
invariant-loop-byte l = record {
  written : take l.at l.line ++ text_of l.texts.timing (body_bits (drop l.byte-index l.frame))
      ≡ text_of l.texts.timing (sent_bits l.frame l.texts.timing.preamble);
  few : l.at ≤ 240 + 108 * l.byte-index;
}
