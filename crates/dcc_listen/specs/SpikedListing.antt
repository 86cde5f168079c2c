-- The listing of the packets that are found in the joined half-bits of a capture.
use Rattle.std.specs.Prelude.{◌≡◌, ℕ, ◌++◌, ◌==◌, Bool, List, [], ◌∷◌, Result, decimal, codes, if◌then◌else◌}
use Rattle.std.specs.List.{join_by}
use Rattle.dcc_lost.specs.declared.joined.SpikedPacket.{SpikedPacket}
use Rattle.dcc_lost.specs.JoinedLost.{packets_found}
use Rattle.dcc_io.specs.declared.fault.ToolFault.{ToolFault}
use Rattle.dcc_io.specs.InputState.{InputState}
use Rattle.dcc_io.specs.WriterState.{WriterState}
use Rattle.dcc_capture.specs.FrameText.{IsFrameText}
use Rattle.dcc_capture.specs.Listing.{AreLines, numbered_text}
use Rattle.dcc_capture.specs.Shown.{WritesLinesOfCapture}
use Rattle.dcc_listen.specs.LostListing.{cause_texts}

-- a list with the text of the cause `spikes`, or the empty list if there are no spikes
abbrev pub spikes_texts : ℕ → List (List ℕ)
spikes_texts spikes = if spikes == 0 then [] else (codes "spikes " ++ decimal spikes) ∷ []

-- the texts of all causes of a found packet, with a comma and a space between every two texts.
-- `half` is the number of the last half-bit of the packet.
abbrev pub spiked_causes_text : ℕ → SpikedPacket → List ℕ
spiked_causes_text half packet =
    join_by (λ text. text) (codes ", ") (cause_texts half packet.lost ++ spikes_texts packet.spikes)

-- `line` is the line of the found packet `packet`. `half` is the number of the last half-bit of this
-- packet, counted from 1. If `words` is true, the line has the packet line of the packet, otherwise
-- the hexadecimal digits of its bytes.
abbrev pub IsSpikedLine : Bool → ℕ → SpikedPacket → List ℕ → Type 0
IsSpikedLine words half packet line =
    (text : List ℕ) × IsFrameText words packet.lost.frame text
    × (line ≡ numbered_text half (codes "lost " ++ text ++ codes ": " ++ spiked_causes_text half packet))

-- `text` is the listing of the packets that are found in the list `halves`: one line for each
-- packet, in order. Half-bits shorter than `limit` are spikes.
abbrev pub IsSpikedListing : Bool → ℕ → List ℕ → List ℕ → Type 0
IsSpikedListing words limit halves text = AreLines (IsSpikedLine words) (packets_found limit halves) text

-- `lost_with_spikes` writes the lines of the packets that are found in a capture
abbrev pub ListsSpiked : Bool → ℕ → InputState → WriterState → Result (Unit {0}) ToolFault → InputState → WriterState
    → Type 0
ListsSpiked words limit old before result new after =
    WritesLinesOfCapture (IsSpikedLine words) (packets_found limit) old before result new after
