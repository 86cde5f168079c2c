use Rattle.std.proofs.Common.{◌≡◌, ◌≢◌, length, ◌-◌, ◌≤◌, take, None}
use Rattle.dcc_wire.specs.Kept.{IsKept}
use Rattle.dcc_wire.specs.Outcomes.{bytes_in}
use Rattle.dcc_wire.proofs.KeptLists.{HasWholeBits, bits_kept}
use Rattle.dcc_wire.proofs.PassedBits.{AddsBits}
use Rattle.dcc_wire.proofs.kept.KeptFramer.pass_bits.Given as goal

abbrev pub invariant-bytes : goal.invariant-bytes
invariant-bytes l = record {
  adds : AddsBits (bits_kept l.fn.self) (take l.at l.halves) (bits_kept l.self);
  unfinished : l.at ≢ 0 → bytes_in 6 (bits_kept l.self) ≡ None;
  has : HasWholeBits l.self;
  none : l.at ≡ 0 → l.self ≡ l.fn.self;
  is : IsKept l.self;
  inside : l.at ≤ length l.halves;
}

abbrev pub decreases-bytes : goal.decreases-bytes
decreases-bytes l = length l.halves - l.at
