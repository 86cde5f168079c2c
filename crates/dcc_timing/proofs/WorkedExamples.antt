-- Figures of given lists, computed on the definitions.
use Rattle.std.proofs.Common.{◌≡◌, refl, [], ◌∷◌, Some, None, true, false, map}
use Rattle.dcc_timing.specs.Numbers.{keep_last, least, most, steps}
use Rattle.dcc_timing.specs.Tallies.{mean}
use Rattle.dcc_timing.specs.Classes.{is_above, is_below, is_between, is_half_of_one, is_half_of_zero}
use Rattle.dcc_timing.specs.PacketBits.{packet_bits_in, difference, packet_length, packets_in, pairs, bit_duration}
use Rattle.dcc_timing.specs.Gaps.{ends_in, longest_gap}
use Rattle.dcc_wire.specs.Framing.{seen, starts_below}
use Rattle.dcc_wire.specs.Inner.OutcomesAt.{outcomes_at}

-- the limits of the classes
below_ends_at_51 : map is_below (51 ∷ 52 ∷ []) ≡ true ∷ false ∷ []
below_ends_at_51 = refl

ones_are_52_to_64 : map is_half_of_one (51 ∷ 52 ∷ 64 ∷ 65 ∷ []) ≡ false ∷ true ∷ true ∷ false ∷ []
ones_are_52_to_64 = refl

between_is_65_to_89 : map is_between (64 ∷ 65 ∷ 89 ∷ 90 ∷ []) ≡ false ∷ true ∷ true ∷ false ∷ []
between_is_65_to_89 = refl

zeros_are_90_to_10000 : map is_half_of_zero (89 ∷ 90 ∷ 10000 ∷ 10001 ∷ []) ≡ false ∷ true ∷ true ∷ false ∷ []
zeros_are_90_to_10000 = refl

above_begins_at_10001 : map is_above (10000 ∷ 10001 ∷ 65535 ∷ []) ≡ false ∷ true ∷ true ∷ []
above_begins_at_10001 = refl

-- three halves of 57, 58 and 58: 57.66
mean_rounded_down : mean (57 ∷ 58 ∷ 58 ∷ []) ≡ Some (record { whole = 57; hundredths = 66 })
unfolding mean
mean_rounded_down = refl

no_mean : mean [] ≡ None
unfolding mean
no_mean = refl

least_of_three : least (58 ∷ 57 ∷ 59 ∷ []) ≡ Some 57
unfolding least
least_of_three = refl

most_of_three : most (58 ∷ 59 ∷ 57 ∷ []) ≡ Some 59
unfolding most
most_of_three = refl

-- packets that end at 7000, 14000 and 34000 microseconds are 7000 and 20000 apart
steps_between : steps (7000 ∷ 14000 ∷ 34000 ∷ []) ≡ 7000 ∷ 20000 ∷ []
unfolding steps
steps_between = refl

no_step : steps (7000 ∷ []) ≡ []
unfolding steps
no_step = refl

-- bits, from the first half of these on
two_bits : pairs (58 ∷ 57 ∷ 100 ∷ 99 ∷ []) ≡ (58, 57) ∷ (100, 99) ∷ []
unfolding pairs
two_bits = refl

how_far_they_differ : map difference ((58, 57) ∷ (55, 61) ∷ []) ≡ 1 ∷ 6 ∷ []
how_far_they_differ = refl

how_long_they_are : map bit_duration ((100, 99) ∷ (95, 9900) ∷ []) ≡ 199 ∷ 9995 ∷ []
how_long_they_are = refl

-- a packet of three bytes: 20 halves of ones and 56 of its body
three_bytes : packet_length 3 ≡ 76
three_bytes = refl

last_two : keep_last 2 (1 ∷ 2 ∷ 3 ∷ []) ≡ 2 ∷ 3 ∷ []
last_two = refl

-- no halves have no packets, no bits and no gap
nothing_in_nothing : packet_bits_in [] ≡ []
unfolding packet_bits_in packets_in seen starts_below outcomes_at
nothing_in_nothing = refl

no_gap_in_nothing : longest_gap [] ≡ None
unfolding longest_gap ends_in packets_in steps most seen starts_below outcomes_at
no_gap_in_nothing = refl
