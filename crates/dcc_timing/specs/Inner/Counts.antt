-- The number of items that each part of the statistics has counted. Each number has an upper bound,
-- so that no count overflows.
use Rattle.std.specs.Prelude.{ℕ, ◌+◌}
use Rattle.dcc_timing.specs.declared.bits.Bits.{Bits}
use Rattle.dcc_timing.specs.declared.classes.Classes.{Classes}
use Rattle.dcc_timing.specs.declared.outcomes.Outcomes.{Outcomes}

-- the number of half-bits that `classes` has counted in all classes
abbrev pub classes_count : Classes → ℕ
classes_count classes =
    classes.below.count + classes.ones.count + classes.between.count + classes.zeros.count + classes.above.count

-- the number of outcomes that `counts` has counted
abbrev pub outcomes_count : Outcomes → ℕ
outcomes_count counts =
    counts.packets + counts.bad_halves + counts.split_bits + counts.too_short + counts.too_long + counts.error_bytes

-- the number of bits that `tallies` has counted in all packets
abbrev pub bits_count : Bits → ℕ
bits_count tallies = tallies.differences.count + tallies.sums.count
