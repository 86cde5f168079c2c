-- The number of CV accesses that a listener has counted.
use Rattle.std.specs.Prelude.{ℕ, ◌+◌, ◌-◌, ◌^◌, nat_lt, if◌then◌else◌}
use Rattle.dcc_regs.specs.Notes.{Note, IdleCall, ResetCall, SpeedCall, FunctionsCall, StateCall, CvAccessCall}
use Rattle.dcc_regs.specs.Notes.{TurnoutCall, SignalCall, OtherCall}

-- the count `n` after a callback: a callback for a CV access adds one, up to 2^32 - 1
abbrev pub counted_after : Note → ℕ → ℕ
counted_after (CvAccessCall to what) n = if nat_lt n (2 ^ 32 - 1) then n + 1 else n
counted_after IdleCall n = n
counted_after (ResetCall to) n = n
counted_after (SpeedCall to what) n = n
counted_after (FunctionsCall to bits) n = n
counted_after (StateCall to state on) n = n
counted_after (TurnoutCall board output on) n = n
counted_after (SignalCall address aspect) n = n
counted_after (OtherCall frame) n = n
