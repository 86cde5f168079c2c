use Rattle.std.proofs.Common.{◌≡◌, ◌+◌, ◌*◌, ◌≤◌, ◌∷◌, ◌++◌, false, take, drop}
use Rattle.dcc_wire.specs.Bodies.{bits_of}
use Rattle.dcc_wire.specs.Sending.{durations_of}
use Rattle.dcc_c.proofs.halves.put_byte.Given as goal

abbrev pub invariant-bits : goal.invariant-bits
invariant-bits l = record {
  written : take l.written l.halves ++ durations_of l.timing (bits_of l.place l.byte)
      ≡ take l.count l.fn.halves ++ durations_of l.timing (false ∷ bits_of 8 l.byte);
  count : l.written + 2 * l.place ≡ l.count + 18;
  behind : drop l.written l.halves ≡ drop l.written l.fn.halves;
  few : l.place ≤ 8;
}

abbrev pub decreases-bits : goal.decreases-bits
decreases-bits l = l.place
