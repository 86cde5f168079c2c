-- The sizes that a station can have.
use Rattle.std.specs.Prelude.{ℕ, Bool, ◌&&◌, nat_le}

-- true if the sizes of a station are within their limits: `queue` is 1 to 64 commands, `slots` is 1
-- to 128 entries, and `repeats` is 1 to 8 copies of each command
abbrev pub is_within_limits : ℕ → ℕ → ℕ → Bool
is_within_limits queue slots repeats =
    nat_le 1 queue && nat_le queue 64 && nat_le 1 slots && nat_le slots 128 && nat_le 1 repeats && nat_le repeats 8
