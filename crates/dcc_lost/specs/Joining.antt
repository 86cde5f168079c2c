-- The state of a finder of lost packets in joined half-bits.
use Rattle.std.specs.Prelude.{◌≡◌, ℕ, Bool, List, [], ◌++◌, map}
use Rattle.dcc_wire.specs.Kept.{kept_rest}
use Rattle.dcc_timing.specs.Numbers.{keep_last}
use Rattle.dcc_timing.specs.Recent.{recent_numbers}
use Rattle.dcc_lost.specs.declared.heard.Heard.{Heard}
use Rattle.dcc_lost.specs.Finding.{since_of}
use Rattle.dcc_lost.specs.declared.joined.ClosedHalves.{ClosedHalves}
use Rattle.dcc_lost.specs.declared.joined.NewestHalf.{NewestHalf}
use Rattle.dcc_lost.specs.declared.joined.SpikeFinder.{SpikeFinder}
use Rattle.dcc_lost.specs.Joined.{halves_of_all, joined_us, joining_of, spikes_in}
use Rattle.dcc_lost.specs.JoinedLost.{of_each, packets_within}
use Rattle.dcc_lost.specs.Unused.{Hears, unused_at_end}

-- the lists of `closed` have the last 130 durations of the joined half-bits `groups`, and three
-- other numbers of each of them. A half-bit shorter than `limit` is a spike.
pub record IsClosed (limit : ℕ) (groups : List (List ℕ)) (closed : ClosedHalves) : Type 0 where
  pub durations : recent_numbers closed.durations ≡ keep_last 130 (map joined_us groups)
  pub spikes : recent_numbers closed.spikes ≡ keep_last 130 (map (spikes_in limit) groups)
  pub unused : recent_numbers closed.unused ≡ keep_last 130 (of_each (λ before group. unused_at_end before) [] groups)
  pub packets : recent_numbers closed.packets ≡ keep_last 130 (of_each packets_within [] groups)

-- the fields of `newest` are the numbers of the joined half-bit `group`, which follows the half-bits
-- `before`. If `taking` is true, `group` takes in the next half-bit.
pub record IsNewest (limit : ℕ) (before group : List ℕ) (taking : Bool) (newest : NewestHalf) : Type 0 where
  pub us : newest.us ≡ joined_us group
  pub spikes : newest.spikes ≡ spikes_in limit group
  pub unused : newest.unused ≡ unused_at_end before
  pub packets : newest.packets ≡ packets_within before group
  pub takes : newest.takes_next ≡ taking

-- a finder with the state `decoder`, `closed` and `newest` has read the list `durations`
pub record HasJoined (limit : ℕ) (decoder : Heard) (closed : ClosedHalves) (newest : NewestHalf) (durations : List ℕ)
    : Type 0 where
  pub heard : Hears (kept_rest decoder.framer) decoder.unused (since_of decoder.refused decoder.since) durations
  pub whole : durations ≡ halves_of_all (joining_of limit durations).closed ++ (joining_of limit durations).newest
  pub before : IsClosed limit (joining_of limit durations).closed closed
  pub last : IsNewest limit (halves_of_all (joining_of limit durations).closed) (joining_of limit durations).newest
      (joining_of limit durations).takes_next newest

-- `finder` has read all half-bits of the list `durations`, and half-bits shorter than `limit` are
-- spikes
pub record Joins (limit : ℕ) (finder : SpikeFinder) (durations : List ℕ) : Type 0 where
  pub limit_is : finder.limit ≡ limit
  pub joined : HasJoined limit finder.heard finder.closed finder.newest durations
