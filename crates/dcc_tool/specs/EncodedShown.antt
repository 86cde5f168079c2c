-- Theorems: `show` lists the packets that `encode` wrote.
use Rattle.std.specs.Prelude.{◌≡◌, ℕ, ◌<◌, ◌≤◌, ◌++◌, Bool, false, List, [], None, Some, Ok, length, map}
use Rattle.std.specs.Prelude.{codes}
use Rattle.std.specs.Io.KnownBytes.{Appends}
use Rattle.dcc_wire.specs.Framing.{seen}
use Rattle.dcc_wire.specs.Sending.{Sent, sent_all, at_last_halves, AllFrames}
use Rattle.dcc_io.specs.InputState.{InputState, closed_text}
use Rattle.dcc_io.specs.Items.{in_text}
use Rattle.dcc_io.specs.PacketLines.{packet_lines}
use Rattle.dcc_io.specs.WriterState.{WriterState}
use Rattle.dcc_capture.specs.Capture.{capture_in}
use Rattle.dcc_capture.specs.Listing.{IsListing}
use Rattle.dcc_capture.specs.Shown.{Shows}
use Rattle.dcc_send.specs.declared.encoding.Encode.{Encode}
use Rattle.dcc_send.specs.Encoded.{EncodesText, timing_of, encoding}

-- the encoding as half-bits for the main track, without a station
abbrev pub in_half_bits : Encode
in_half_bits = record { hex = false; service = false; station = None }

-- each frame of `frames` with the timing of the encoding `how`
abbrev pub to_send : Encode → List (List ℕ) → List Sent
to_send how frames = map (λ frame. record { bytes = frame; timing = timing_of how }) frames

-- the half-bits of `frames`, sent one after the other with the timing of the encoding `how`
abbrev pub halves_to_send : Encode → List (List ℕ) → List ℕ
halves_to_send how frames = sent_all (to_send how frames)

-- the lines of `frames` in the encoding `how`, and then the line feed that an input appends to a
-- text
abbrev pub closed_encoding : Encode → List (List ℕ) → List ℕ
closed_encoding how frames = encoding how frames ++ codes "\n"

-- `how` is an encoding as half-bits and not as hexadecimal digits, and `input` is not in a comment.
-- The limits of `input` allow the half-bits of `frames`, the bytes of `text`, and the line feed
-- after the text.
pub record TakesText (how : Encode) (frames : List (List ℕ)) (text : List ℕ) (input : InputState) : Type 0 where
  pub in_halves : how.hex ≡ false
  pub in_no_comment : input.place.in_comment ≡ false
  pub halves : length (halves_to_send how frames) ≤ input.halves
  pub bytes : length text < input.bytes

-- the lines of `frames` in the encoding `how` consist of half-bits. The input can read these lines:
-- it is not in a comment, and its limits allow the lines.
abbrev pub TakesEncoding : Encode → List (List ℕ) → InputState → Type 0
TakesEncoding how frames = TakesText how frames (encoding how frames)

-- if an input can read an encoding of `frames`, this encoding is a capture without an error. The
-- half-bits of the capture are exactly the half-bits of `frames`.
abbrev pub EncodingsAreCaptures : Type 0
EncodingsAreCaptures = (how : Encode) (frames : List (List ℕ)) (input : InputState) → TakesEncoding how frames input
    → capture_in input (closed_encoding how frames) ≡ record { said = halves_to_send how frames; fault = None }

-- the outcomes in the capture that encodes `frames` are exactly these frames, in order, each at its
-- last half-bit
abbrev pub EncodedFramesAreSeen : Type 0
EncodedFramesAreSeen = (how : Encode) (frames : List (List ℕ)) (input : InputState) → TakesEncoding how frames input
    → AllFrames (to_send how frames)
    → seen (capture_in input (closed_encoding how frames)).said ≡ at_last_halves 0 (to_send how frames)

-- the listing of `frames` was written, with packet lines if `words` is true. The listing has one
-- line for each frame, in order, with the number of the last half-bit of the frame.
abbrev pub ListsSent : Bool → WriterState → WriterState → List Sent → Type 0
ListsSent words before after frames =
    (text : List ℕ) × IsListing words (at_last_halves 0 frames) text × Appends before.contents after.contents text

-- if `show` reads the whole encoding of `frames` without an error, it lists exactly these frames,
-- each at its last half-bit
abbrev pub EncodingsAreShown : Type 0
EncodingsAreShown = (how : Encode) (frames : List (List ℕ)) (words : Bool) (old new : InputState)
    (before after : WriterState) → TakesEncoding how frames old → AllFrames (to_send how frames)
    → old.text ≡ closed_text false (Some (encoding how frames)) → Shows words old before (Ok tt) new after
    → ListsSent words before after (to_send how frames)

-- if `encode` wrote the encoding of packet lines into memory, and `show` reads it without an error,
-- `show` lists exactly the packets of these lines
abbrev pub PacketLinesAreShown : Type 0
PacketLinesAreShown = (how : Encode) (words : Bool) (lines lines' capture capture' : InputState)
    (from to before after : WriterState) (text encoded : List ℕ)
    → EncodesText how lines from (Ok tt) lines' to → lines.text ≡ Some text
    → from.contents ≡ Some [] → to.contents ≡ Some encoded
    → TakesEncoding how (in_text packet_lines lines text).said capture
    → capture.text ≡ closed_text false (Some encoded) → Shows words capture before (Ok tt) capture' after
    → ListsSent words before after (to_send how (in_text packet_lines lines text).said)
