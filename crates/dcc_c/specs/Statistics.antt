-- The statistics of a track as a C struct.
use Rattle.std.specs.Prelude.{◌≡◌, ℕ, Bool, false, List, length, min, sum, Option, Some, None, if◌then◌else◌}
use Rattle.dcc_wire.specs.Framing.{seen}
use Rattle.dcc_timing.specs.Classes.{AreClasses}
use Rattle.dcc_timing.specs.Outcomes.{AreOutcomes}
use Rattle.dcc_timing.specs.PacketBits.{AreBits, packet_bits_in}
use Rattle.dcc_timing.specs.Gaps.{longest_gap}
use Rattle.dcc_lost.specs.Preambles.{lost_count, shortest_preamble}
use Rattle.dcc_c.specs.declared.meter.DccStatistics.{DccStatistics}

-- the number of two fields: `number` if `has` is true, otherwise `None`
abbrev pub number_if : Bool → ℕ → Option ℕ
number_if has number = if has then Some number else None

-- `statistics` are the statistics of the half-bits `halves`
pub record AreStatistics (statistics : DccStatistics) (halves : List ℕ) : Type 0 where
  pub count : statistics.halves ≡ length halves
  pub time : statistics.time ≡ sum halves
  pub classes : AreClasses statistics.classes halves
  pub outcomes : AreOutcomes statistics.outcomes (seen halves)
  pub bits : AreBits statistics.bits (packet_bits_in halves)
  pub gap : number_if statistics.has_gap statistics.gap ≡ longest_gap halves
  pub no_gap : statistics.has_gap ≡ false → statistics.gap ≡ 0
  pub lost : statistics.lost ≡ min 4294967295 (lost_count halves)
  pub preamble : number_if statistics.has_preamble statistics.preamble ≡ shortest_preamble halves
  pub no_preamble : statistics.has_preamble ≡ false → statistics.preamble ≡ 0
