use Rattle.std.proofs.Common.{◌≡◌, ◌-◌, ◌<◌, ◌≤◌, ◌*◌, ◌^◌, length, take}
use Rattle.dcc_wire.specs.Bodies.{bits_of}
use Rattle.dcc_wire.proofs.PassedBits.{AddsBits}
use Rattle.dcc_wire.proofs.byte_bits.bits_of_byte.Given as goal

abbrev pub invariant-bits : goal.invariant-bits
invariant-bits l = record {
  adds : AddsBits (bits_of l.fn.count l.fn.shift) (take l.byte.at l.halves) (bits_of l.byte.count l.byte.shift);
  part : l.byte.count ≤ 9;
  zero_first : 2 * l.byte.shift < 2 ^ l.byte.count;
  none : l.byte.at ≡ 0 → (l.byte.count ≡ l.fn.count) × (l.byte.shift ≡ l.fn.shift);
  inside : l.byte.at ≤ length l.halves;
}

abbrev pub decreases-bits : goal.decreases-bits
decreases-bits l = 9 - l.byte.count
