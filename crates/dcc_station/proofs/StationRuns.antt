-- Runs of a station grow at their end.
use Rattle.std.proofs.Common.{[], ◌∷◌, ◌++◌}
use Rattle.dcc_station.specs.Sending.{with_command, forgotten}
use Rattle.dcc_station.specs.WaitingTimes.{stays, accepts_one, returns_one, forgets_one, ReturnedPacketsAreRuns}
use Rattle.dcc_station.specs.WaitingTimes.{RunsGoOnByPackets, RunsGoOnByCommands, RunsGoOnByForgetting}

pub all_returned : ReturnedPacketsAreRuns
all_returned s new [] is = rw is (stays s)
all_returned s new (p ∷ later) (between, next, run) =
    returns_one s between new p later next (all_returned between new later run)

pub one_packet : RunsGoOnByPackets
one_packet _ _ new _ p (stays s) next = returns_one s new new p [] next (stays new)
one_packet _ _ new _ p (accepts_one s between packets q run) next =
    accepts_one s new (packets ++ p ∷ []) q (one_packet (with_command s q) between new packets p run next)
one_packet _ _ new _ p (returns_one s first between q packets returned run) next =
    returns_one s first new q (packets ++ p ∷ []) returned (one_packet first between new packets p run next)
one_packet _ _ new _ p (forgets_one s between packets to run) next =
    forgets_one s new (packets ++ p ∷ []) to (one_packet (forgotten s to) between new packets p run next)

pub one_command : RunsGoOnByCommands
one_command _ _ _ p (stays s) = accepts_one s (with_command s p) [] p (stays (with_command s p))
one_command _ _ _ p (accepts_one s between packets q run) =
    accepts_one s (with_command between p) packets q (one_command (with_command s q) between packets p run)
one_command _ _ _ p (returns_one s first between q packets returned run) =
    returns_one s first (with_command between p) q packets returned (one_command first between packets p run)
one_command _ _ _ p (forgets_one s between packets to run) =
    forgets_one s (with_command between p) packets to (one_command (forgotten s to) between packets p run)

pub one_forgetting : RunsGoOnByForgetting
one_forgetting _ _ _ to (stays s) = forgets_one s (forgotten s to) [] to (stays (forgotten s to))
one_forgetting _ _ _ to (accepts_one s between packets q run) =
    accepts_one s (forgotten between to) packets q (one_forgetting (with_command s q) between packets to run)
one_forgetting _ _ _ to (returns_one s first between q packets returned run) =
    returns_one s first (forgotten between to) q packets returned (one_forgetting first between packets to run)
one_forgetting _ _ _ to (forgets_one s between packets own run) =
    forgets_one s (forgotten between to) packets own (one_forgetting (forgotten s own) between packets to run)
