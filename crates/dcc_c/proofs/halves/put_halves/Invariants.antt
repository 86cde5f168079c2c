use Rattle.std.proofs.Common.{◌≡◌, ◌+◌, ◌-◌, ◌*◌, ◌++◌, true, take, drop, replicate}
use Rattle.dcc_wire.specs.Bodies.{body_bits}
use Rattle.dcc_wire.specs.Sending.{durations_of, sent}
use Rattle.dcc_c.proofs.halves.put_halves.Given as goal

abbrev pub invariant-loop : goal.invariant-loop
invariant-loop l = record {
  written : take l.count l.halves ++ durations_of l.timing (replicate (l.timing.preamble - l.counter) true
      ++ body_bits l.frame) ≡ sent l.frame l.timing;
  count : l.count ≡ 2 * l.counter;
  behind : drop l.count l.halves ≡ drop l.count l.fn.halves;
}

abbrev pub invariant-loop-byte : goal.invariant-loop-byte
invariant-loop-byte l = record {
  written : take l.count l.halves ++ durations_of l.timing (body_bits (drop l.byte-index l.frame))
      ≡ sent l.frame l.timing;
  count : l.count ≡ 2 * l.timing.preamble + 18 * l.byte-index;
  behind : drop l.count l.halves ≡ drop l.count l.fn.halves;
}
