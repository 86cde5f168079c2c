-- The errors of reading a decoder text.
use Rattle.std.specs.Prelude.{◌≡◌, Err}
use Rattle.dcc_io.specs.declared.fault.KeptFault.TheVariants as kept
use Rattle.dcc_io.specs.declared.fault.ToolFault.{ToolFault}
use Rattle.dcc_io.specs.declared.fault.ToolFault.TheVariants.{Usage, Number, Line, Read, Write, NoMemory, TooMuch}
use Rattle.dcc_io.specs.InputState.{InputState}
use Rattle.dcc_saved.specs.TextRead.{ReadsValue}
use Rattle.dcc_saved.specs.DecoderText.{decoder_text}

-- the given error is the error of the decoder text in `old`, or it is U6. In the second case an
-- allocation failed, and nothing was read.
abbrev pub ReadFails : InputState → ToolFault → InputState → Type 0
ReadFails old (Line line fault) new = ReadsValue decoder_text old (Err (kept.Line line fault)) new
ReadFails old Read new = ReadsValue decoder_text old (Err kept.Read) new
ReadFails old TooMuch new = ReadsValue decoder_text old (Err kept.TooMuch) new
ReadFails old NoMemory new = new ≡ old
ReadFails old (Number line) new = ⊥
ReadFails old Write new = ⊥
ReadFails old (Usage usage) new = ⊥
