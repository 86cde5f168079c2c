-- The listing of a capture in plain words.
use Rattle.std.specs.Prelude.{◌≡◌, ℕ, List, [], Result}
use Rattle.dcc_wire.specs.declared.seen.Seen.{Seen}
use Rattle.dcc_wire.specs.declared.seen.Seen.TheVariants.{Nothing, Packet, Refused}
use Rattle.dcc_wire.specs.Framing.{seen}
use Rattle.dcc_io.specs.declared.fault.ToolFault.{ToolFault}
use Rattle.dcc_io.specs.InputState.{InputState}
use Rattle.dcc_io.specs.WriterState.{WriterState}
use Rattle.dcc_capture.specs.Listing.{AreLines, numbered_text, refusal_text}
use Rattle.dcc_capture.specs.Shown.{WritesLinesOfCapture}
use Rattle.dcc_plain.specs.PlainText.{IsPlainText}

-- `text` is the text of an outcome: the plain words of a packet, or the text of a refusal
abbrev pub IsPlainOutcome : Seen → List ℕ → Type 0
IsPlainOutcome Nothing text = text ≡ []
IsPlainOutcome (Packet frame) text = IsPlainText frame text
IsPlainOutcome (Refused fault) text = text ≡ refusal_text fault

-- `line` is the line of `outcome` in a listing in plain words. `half` is the number of the last
-- half-bit of the outcome, counted from 1.
abbrev pub IsPlainLine : ℕ → Seen → List ℕ → Type 0
IsPlainLine half outcome line = (text : List ℕ) × IsPlainOutcome outcome text × (line ≡ numbered_text half text)

-- `text` is the listing of `outcomes` in plain words: one line for each outcome, in order
abbrev pub IsPlainListing : List (ℕ × Seen) → List ℕ → Type 0
IsPlainListing outcomes text = AreLines IsPlainLine outcomes text

-- `show_plain` writes the listing of the outcomes of a capture in plain words
abbrev pub ShowsPlain : InputState → WriterState → Result (Unit {0}) ToolFault → InputState → WriterState → Type 0
ShowsPlain old before result new after = WritesLinesOfCapture IsPlainLine seen old before result new after
