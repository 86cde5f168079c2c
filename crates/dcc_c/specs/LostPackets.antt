-- The C structure of a lost packet.
use Rattle.std.specs.Prelude.{ℕ, true, false, Option, Some, None}
use Rattle.dcc_lost.specs.declared.causes.LostPacket.{LostPacket}
use Rattle.dcc_lost.specs.declared.causes.OffLimits.{OffLimits}
use Rattle.dcc_lost.specs.declared.causes.ShortPreamble.{ShortPreamble}
use Rattle.dcc_c.specs.declared.lost_packet.DccLostPacket.{DccLostPacket}
use Rattle.dcc_c.specs.declared.lost_packet.DccOffLimits.{DccOffLimits}
use Rattle.dcc_c.specs.declared.lost_packet.DccShortPreamble.{DccShortPreamble}
use Rattle.dcc_c.specs.Frames.{frame_numbers}

-- the C structure of a preamble with `ones` half-bits of ones, which is too short. The argument
-- `since` is the number of half-bits since the refusal that uses the half-bit before, or `None`.
abbrev pub short_numbers : ℕ → Option ℕ → DccShortPreamble
short_numbers ones None = record { is_short = true; ones = ones; after_refusal = false; since_refusal = 0 }
short_numbers ones (Some since) =
    record { is_short = true; ones = ones; after_refusal = true; since_refusal = since }

-- the C structure of a preamble that is too short. For `None`, the structure says that the preamble
-- is long enough.
abbrev pub short_preamble_numbers : Option ShortPreamble → DccShortPreamble
short_preamble_numbers None = record { is_short = false; ones = 0; after_refusal = false; since_refusal = 0 }
short_preamble_numbers (Some short) = short_numbers short.ones short.since_refusal

-- the C structure of half-bits outside the limits of a decoder. If there are no such half-bits, the
-- structure has the count 0.
abbrev pub off_limits_numbers : Option OffLimits → DccOffLimits
off_limits_numbers None = record { count = 0; least = 0; most = 0 }
off_limits_numbers (Some off) = record { count = off.count; least = off.least; most = off.most }

-- the C structure of the lost packet `packet`
abbrev pub lost_numbers : LostPacket → DccLostPacket
lost_numbers packet = record {
  frame = frame_numbers packet.frame;
  preamble = short_preamble_numbers packet.preamble;
  ones = off_limits_numbers packet.ones;
  zeros = off_limits_numbers packet.zeros;
}
