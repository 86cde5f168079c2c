-- The half-bits of a list, classified by the limits of a decoder (NMRA S-9.1).
use Rattle.std.specs.Prelude.{ℕ, nat_le, nat_lt, Bool, ◌&&◌, List}
use Rattle.std.specs.List.{filter}
use Rattle.dcc_timing.specs.declared.classes.Classes.{Classes}
use Rattle.dcc_timing.specs.Tallies.{IsTally}

-- true if `us` is a duration of half of a one, 52 to 64 microseconds
abbrev pub is_half_of_one : ℕ → Bool
is_half_of_one us = nat_le 52 us && nat_le us 64

abbrev pub is_half_of_zero : ℕ → Bool
is_half_of_zero us = nat_le 90 us && nat_le us 10000

-- true if `us` is a duration below the limits of half of a one
abbrev pub is_below : ℕ → Bool
is_below us = nat_lt us 52

abbrev pub is_between : ℕ → Bool
is_between us = nat_lt 64 us && nat_lt us 90

abbrev pub is_above : ℕ → Bool
is_above us = nat_lt 10000 us

-- `classes` are the tallies of `halves`, one tally for each class of durations
pub record AreClasses (classes : Classes) (halves : List ℕ) : Type 0 where
  pub below : IsTally classes.below (filter is_below halves)
  pub ones : IsTally classes.ones (filter is_half_of_one halves)
  pub between : IsTally classes.between (filter is_between halves)
  pub zeros : IsTally classes.zeros (filter is_half_of_zero halves)
  pub above : IsTally classes.above (filter is_above halves)
