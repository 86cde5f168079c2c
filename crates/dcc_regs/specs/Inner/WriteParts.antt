-- The writes of packets in two parts: the bits that a change of a CV sets, and the test of the
-- pending write. `proofs/WritesInParts` proves that `bit_set` and `is_effective` equal these parts.
use Rattle.std.specs.Prelude.{ℕ, Bool, false, not, ◌&&◌, ◌==◌, Option, None, Some, if◌then◌else◌}
use Rattle.dcc_packet.specs.declared.packet.Packet.{Packet}
use Rattle.dcc_packet.specs.Bits.{is_one}
use Rattle.dcc_packet.specs.Cvs.{is_read_only}
use Rattle.dcc_regs.specs.declared.register.Value.{Value}
use Rattle.dcc_regs.specs.declared.register.Value.TheVariants.{Pending as PendingValue}
use Rattle.dcc_regs.specs.Writes.{CvChange, Byte, OneBit}
use Rattle.dcc_regs.specs.Result.{is_repeated}

-- the value to which a change sets bit `k` of CV `n`. If the change does not set this bit, or if
-- the CV is read-only, the result is `None`.
abbrev pub bit_by : Option CvChange → ℕ → ℕ → Option Bool
bit_by None n k = None
bit_by (Some (Byte cv value)) n k =
    if n == cv.number && not (is_read_only cv.number) then Some (is_one value k) else None
bit_by (Some (OneBit cv place one)) n k =
    if n == cv.number && k == place.place && not (is_read_only cv.number) then Some one else None

-- true if the register Pending, with the value `held`, holds a packet that equals `p`
abbrev pub is_pending : Option Value → Packet → Bool
is_pending (Some (PendingValue before)) p = is_repeated before p
is_pending held p = false
