-- Ranges of numbers.
use Rattle.std.specs.Prelude.{◌≤◌, ℕ, nat_le, Bool, ◌&&◌, List, [], ◌∷◌}
use Rattle.dcc_timing.specs.declared.covered.Span.{Span}
use Rattle.dcc_timing.specs.PacketBits.{bit_duration, difference, is_one_pair, is_zero_pair}

-- true if the number `us` is in the range `span`
abbrev pub is_in : Span → ℕ → Bool
is_in span us = nat_le span.least us && nat_le us span.most

-- true if the bit `bit` is a one whose difference is in the range `span`
abbrev pub is_one_in : Span → ℕ × ℕ → Bool
is_one_in span bit = is_one_pair bit && is_in span (difference bit)

-- true if the bit `bit` is a zero whose duration is in the range `span`
abbrev pub is_zero_in : Span → ℕ × ℕ → Bool
is_zero_in span bit = is_zero_pair bit && is_in span (bit_duration bit)

-- each number of a list is at least `low` and at most `high`
unfoldable pub AllBetween : ℕ → ℕ → List ℕ → Type 0
AllBetween low high [] = Unit {0}
AllBetween low high (number ∷ numbers) = (low ≤ number) × (number ≤ high) × AllBetween low high numbers
