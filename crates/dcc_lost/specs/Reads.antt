-- The list of half-bits that a finder of lost packets has read.
use Rattle.std.specs.Prelude.{ℕ, List}
use Rattle.dcc_lost.specs.declared.finder.LostFinder.{LostFinder}
use Rattle.dcc_timing.specs.Recent.{recent_numbers}
use Rattle.dcc_lost.specs.Finding.{HasRead, heard_state}

-- `finder` has read all half-bits of the list `durations`
abbrev pub Follows : LostFinder → List ℕ → Type 0
Follows finder durations =
    HasRead (heard_state finder.heard) (recent_numbers finder.recent) (recent_numbers finder.unused) durations
