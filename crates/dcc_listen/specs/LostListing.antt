-- The listing of the packets that are lost in a capture.
use Rattle.std.specs.Prelude.{◌≡◌, ℕ, ◌-◌, ◌++◌, Bool, List, [], Option, None, Some, Result, decimal, codes}
use Rattle.std.specs.List.{join_by}
use Rattle.std.specs.Option.{option_map, option_to_list}
use Rattle.dcc_lost.specs.declared.causes.OffLimits.{OffLimits}
use Rattle.dcc_lost.specs.declared.causes.ShortPreamble.{ShortPreamble}
use Rattle.dcc_lost.specs.declared.causes.LostPacket.{LostPacket}
use Rattle.dcc_lost.specs.Causes.{packets_lost}
use Rattle.dcc_io.specs.declared.fault.ToolFault.{ToolFault}
use Rattle.dcc_io.specs.InputState.{InputState}
use Rattle.dcc_io.specs.WriterState.{WriterState}
use Rattle.dcc_capture.specs.FrameText.{IsFrameText}
use Rattle.dcc_capture.specs.Listing.{AreLines, numbered_text}
use Rattle.dcc_capture.specs.Shown.{WritesLinesOfCapture}

-- The text of the refusal that uses the preamble of a lost packet. The last half-bit of the packet
-- has the number `half`, and the refusal ends `since` half-bits before this half-bit. If there is
-- no refusal, the text is empty.
abbrev pub refusal_place_text : ℕ → Option ℕ → List ℕ
refusal_place_text half None = []
refusal_place_text half (Some since) = codes " after " ++ decimal (half - since)

-- the text of the cause `preamble`, which is too short a preamble. `half` is the number of the last
-- half-bit of the packet, counted from 1.
abbrev pub preamble_text : ℕ → ShortPreamble → List ℕ
preamble_text half preamble =
    codes "preamble " ++ decimal preamble.ones ++ refusal_place_text half preamble.since_refusal

-- the text of the half-bits `off` outside the limits of a decoder. The list `name` is the word
-- `ones` or `zeros`.
abbrev pub off_limits_text : List ℕ → OffLimits → List ℕ
off_limits_text name off =
    name ++ codes " " ++ decimal off.count ++ codes " from " ++ decimal off.least ++ codes " to " ++ decimal off.most

-- the texts of all causes of the lost packet `packet`. The last half-bit of the packet has the
-- number `half`.
abbrev pub cause_texts : ℕ → LostPacket → List (List ℕ)
cause_texts half packet =
    option_to_list (option_map (preamble_text half) packet.preamble)
    ++ option_to_list (option_map (off_limits_text (codes "ones")) packet.ones)
    ++ option_to_list (option_map (off_limits_text (codes "zeros")) packet.zeros)

-- the texts of all causes of the lost packet `packet`, with a comma and a space between every two
-- texts. `half` is the number of the last half-bit of the packet.
abbrev pub causes_text : ℕ → LostPacket → List ℕ
causes_text half packet = join_by (λ text. text) (codes ", ") (cause_texts half packet)

-- `line` is the line of the lost packet `packet`. `half` is the number of the last half-bit of this
-- packet, counted from 1. If `words` is true, the line has the packet line of the packet, otherwise
-- the hexadecimal digits of its bytes.
abbrev pub IsLostLine : Bool → ℕ → LostPacket → List ℕ → Type 0
IsLostLine words half packet line =
    (text : List ℕ) × IsFrameText words packet.frame text
    × (line ≡ numbered_text half (codes "lost " ++ text ++ codes ": " ++ causes_text half packet))

-- `text` is the listing of the packets that are lost in the list `halves`: one line for each
-- packet, in order. If `words` is true, the lines have packet lines, otherwise hexadecimal digits.
abbrev pub IsLostListing : Bool → List ℕ → List ℕ → Type 0
IsLostListing words halves text = AreLines (IsLostLine words) (packets_lost halves) text

-- `lost` writes the lines of the packets that are lost in a capture
abbrev pub ListsLost : Bool → InputState → WriterState → Result (Unit {0}) ToolFault → InputState → WriterState → Type 0
ListsLost words old before result new after =
    WritesLinesOfCapture (IsLostLine words) packets_lost old before result new after
