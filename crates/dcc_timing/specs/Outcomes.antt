-- The numbers of packets and of refusals in a list of half-bits.
use Rattle.std.specs.Prelude.{◌≡◌, ℕ, ◌==◌, Bool, true, false, List}
use Rattle.std.specs.List.{count_by}
use Rattle.dcc_wire.specs.declared.seen.Seen.{Seen}
use Rattle.dcc_wire.specs.declared.seen.Seen.TheVariants.{Nothing, Packet, Refused}
use Rattle.dcc_wire.specs.FaultNumbers.{fault_number}
use Rattle.dcc_timing.specs.declared.outcomes.Outcomes.{Outcomes}

-- true if the outcome is a packet
abbrev pub is_packet : ℕ × Seen → Bool
is_packet (place, Packet bytes) = true
is_packet (place, Refused fault) = false
is_packet (place, Nothing) = false

-- true if the outcome is a refusal with the error `number`, from 1 for H1 to 5 for H5
abbrev pub is_refused : ℕ → ℕ × Seen → Bool
is_refused number (place, Refused fault) = fault_number fault == number
is_refused number (place, Packet bytes) = false
is_refused number (place, Nothing) = false

-- `counts` has the number of packets in the list `outcomes`, and the number of refusals with each
-- error
pub record AreOutcomes (counts : Outcomes) (outcomes : List (ℕ × Seen)) : Type 0 where
  pub packets : counts.packets ≡ count_by is_packet outcomes
  pub bad_halves : counts.bad_halves ≡ count_by (is_refused 1) outcomes
  pub split_bits : counts.split_bits ≡ count_by (is_refused 2) outcomes
  pub too_short : counts.too_short ≡ count_by (is_refused 3) outcomes
  pub too_long : counts.too_long ≡ count_by (is_refused 4) outcomes
  pub error_bytes : counts.error_bytes ≡ count_by (is_refused 5) outcomes
