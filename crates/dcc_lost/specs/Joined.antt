-- Half-bits that are joined with the spikes next to them. A spike is a half-bit that is shorter
-- than a limit.
use Rattle.std.specs.Prelude.{ℕ, min, nat_lt, Bool, true, false, not, List, [], ◌∷◌, ◌++◌, sum, if◌then◌else◌}
use Rattle.std.specs.List.{count_by, flat_map, fold}

-- The joined half-bits of a list that was read from its first half-bit on. A joined half-bit is the
-- list of its half-bits. `closed` are all joined half-bits but the last one, which is `newest`. If
-- `takes_next` is true, `newest` takes in the next half-bit of the list.
pub record Joining : Type 0 where
  pub closed : List (List ℕ)
  pub newest : List ℕ
  pub takes_next : Bool

-- the state before the first half-bit of a list. The first joined half-bit takes in this half-bit.
abbrev pub nothing_joined : Joining
nothing_joined = record { closed = []; newest = []; takes_next = true }

-- true if the half-bit `us` closes the last joined half-bit: it is no spike, and it is not taken in
-- because of a spike directly before it
abbrev pub closes : ℕ → Joining → ℕ → Bool
closes limit joining us = if nat_lt us limit then false else not joining.takes_next

-- The state after one more half-bit of `us` microseconds. A spike is taken in, and also the half-bit
-- directly after this spike. If this next half-bit is a spike too, the half-bit after it is not
-- taken in for its sake. Any other half-bit closes the last joined half-bit and begins a new one.
unfoldable pub join_next : ℕ → Joining → ℕ → Joining
join_next limit joining us =
    if closes limit joining us
    then record { closed = joining.closed ++ joining.newest ∷ []; newest = us ∷ []; takes_next = false }
    else record {
      closed = joining.closed;
      newest = joining.newest ++ us ∷ [];
      takes_next = if nat_lt us limit then not joining.takes_next else false;
    }

-- the state after the list `durations`
unfoldable pub joining_of : ℕ → List ℕ → Joining
joining_of limit durations = fold (join_next limit) nothing_joined durations

-- The joined half-bits of the list `durations`, in order. A half-bit shorter than `limit` is a
-- spike. Each joined half-bit is the list of its half-bits, so all joined half-bits together are
-- `durations`. An empty list has one joined half-bit, which is empty.
unfoldable pub joined : ℕ → List ℕ → List (List ℕ)
joined limit durations =
    let joining = joining_of limit durations in joining.closed ++ joining.newest ∷ []

-- the duration of a joined half-bit in microseconds: the sum of its half-bits, at most 65535
abbrev pub joined_us : List ℕ → ℕ
joined_us group = min 65535 (sum group)

-- the number of half-bits of a joined half-bit that are shorter than `limit`, at most 65535
abbrev pub spikes_in : ℕ → List ℕ → ℕ
spikes_in limit group = min 65535 (count_by (λ us. nat_lt us limit) group)

-- the half-bits of the joined half-bits `groups`, in order
abbrev pub halves_of_all : List (List ℕ) → List ℕ
halves_of_all groups = flat_map (λ group. group) groups
