use Rattle.std.proofs.Common.{◌≡◌, ◌*◌, ◌≤◌, take, replicate, true}
use Rattle.dcc_send.proofs.BitLemmas.{text_of}
use Rattle.dcc_send.proofs.encoded_line.put_ones.Given as goal

abbrev pub invariant-loop : goal.invariant-loop
invariant-loop l = record {
  written : take l.at l.line ≡ text_of l.fn.timing (replicate l.counter true);
  few : l.at ≤ 12 * l.counter;
}
