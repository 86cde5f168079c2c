-- The packet that is found at the end of a capture with joined half-bits.
use Rattle.std.specs.Prelude.{ℕ, ◌++◌, ◌==◌, Bool, List, [], Result, length, decimal, codes, if◌then◌else◌}
use Rattle.dcc_lost.specs.JoinedLost.{packet_found, report_found}
use Rattle.dcc_io.specs.declared.fault.ToolFault.{ToolFault}
use Rattle.dcc_io.specs.WriterState.{WriterState}
use Rattle.dcc_capture.specs.HeldRuns.{WritesRest}
use Rattle.dcc_capture.specs.Listing.{AreLines}
use Rattle.dcc_listen.specs.SpikedListing.{IsSpikedLine}

-- the line of the packet that is found at the end of `durations`, if there is one, was written after
-- the buffered bytes `held`. Then `result` is `answer`. After a failed write it is the error U5.
abbrev pub WritesEnd : Bool → ℕ → List ℕ → WriterState → List ℕ → Result (Unit {0}) ToolFault
    → Result (Unit {0}) ToolFault → WriterState → Type 0
WritesEnd words limit durations before held answer result after =
    (text : List ℕ) × AreLines (IsSpikedLine words) (report_found (length durations)
    (packet_found limit durations)) text
    × WritesRest before (held ++ text) answer result after

-- the text of the cause `spikes`, or no text if there are no spikes. If `has_cause` is true, a comma
-- and a space come before this text.
abbrev pub spikes_behind : Bool → ℕ → List ℕ
spikes_behind has_cause spikes =
    if spikes == 0 then [] else (if has_cause then codes ", " else []) ++ (codes "spikes " ++ decimal spikes)
