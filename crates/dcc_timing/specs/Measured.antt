-- The parts of a `Timings` as statistics of a list of half-bits.
use Rattle.std.specs.Prelude.{◌≡◌, ℕ, List, length, sum}
use Rattle.dcc_wire.specs.Framing.{Rest, seen, StandsFor}
use Rattle.dcc_timing.specs.declared.classes.Classes.{Classes}
use Rattle.dcc_timing.specs.declared.outcomes.Outcomes.{Outcomes}
use Rattle.dcc_timing.specs.declared.packets.Packets.{Packets}
use Rattle.dcc_timing.specs.Numbers.{keep_last}
use Rattle.dcc_timing.specs.Classes.{AreClasses}
use Rattle.dcc_timing.specs.Outcomes.{AreOutcomes}
use Rattle.dcc_timing.specs.PacketBits.{AreBits, packet_bits_in}
use Rattle.dcc_timing.specs.Gaps.{ends_in}
use Rattle.dcc_timing.specs.KeptGaps.{AreGaps}

-- the parts of a `Timings` are the statistics of the list `halves`. `counted` is the number of
-- half-bits, and `microseconds` is their total time. `by_class` are the tallies of the classes,
-- `by_outcome` are the counts of the outcomes, and `packets` are the statistics of packets. `rest`
-- is the state of a framer after `halves`, and `last` are the last 130 half-bits.
pub record AreMeasured (counted microseconds : ℕ) (by_class : Classes) (by_outcome : Outcomes) (packets : Packets)
    (rest : Rest)
    (last halves : List ℕ) : Type 0 where
  pub count : counted ≡ length halves
  pub time : microseconds ≡ sum halves
  pub classes : AreClasses by_class halves
  pub outcomes : AreOutcomes by_outcome (seen halves)
  pub bits : AreBits packets.bits (packet_bits_in halves)
  pub gaps : AreGaps packets.gaps (ends_in halves)
  pub framer : StandsFor rest halves
  pub recent : last ≡ keep_last 130 halves
