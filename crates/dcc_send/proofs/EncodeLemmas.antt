-- How an encoding grows. The search finds `encodes_all` and `encodes_up_to` at the returns of its loop.
use Rattle.std.proofs.Common.{◌≡◌, ℕ, List, [], ◌∷◌, ◌++◌, Option, None, Some, Ok, Err, refl, ◌∙◌}
use Rattle.std.proofs.Common.{IfSome, IsSomeAnd}
use Rattle.std.proofs.lemmas.List.{append-nil}
use Rattle.std.proofs.lemmas.List.Concat.{flat_map-append}
use Rattle.dcc_packet.specs.declared.packet.Packet.{Packet}
use Rattle.dcc_packet.specs.Spelling.{spelling}
use Rattle.dcc_send.specs.declared.encoding.Encode.{Encode}
use Rattle.dcc_io.specs.declared.fault.KeptFault.{KeptFault}
use Rattle.dcc_io.specs.declared.fault.ToolFault.TheVariants.{Write}
use Rattle.dcc_io.specs.Failures.{HasRisen}
use Rattle.dcc_io.specs.Faults.{as_tool_fault}
use Rattle.dcc_io.specs.InputState.{InputState}
use Rattle.dcc_io.specs.WriterState.{WriterState}
use Rattle.dcc_io.specs.WrittenBytes.{AppendsFront}
use Rattle.dcc_io.specs.Held.{Holds}
use Rattle.dcc_io.specs.Items.{Gives, Gave}
use Rattle.dcc_io.specs.PacketLines.{packet_lines, packet_words, frames_in}
use Rattle.dcc_io.specs.PacketRead.{AnswersSaid}
use Rattle.dcc_send.specs.Inner.Held.{WritesOut}
use Rattle.dcc_send.specs.Encoded.{frame_line, encoding, Encodes, EncodesText}
use Rattle.dcc_io.proofs.HeldLemmas.{Holds-same, Holds-wrote, Holds-append, Holds-fails, Holds-fails_with, Holds-rest}
use Rattle.dcc_io.proofs.WrittenLemmas.{AppendsFront-more}
use Rattle.dcc_io.proofs.ItemsLemmas.{Gave-none, Gave-append, in_whole}
use Rattle.dcc_send.proofs.LinesLemmas.{writes_all, writes_up_to}

-- so far these frames were read, and their lines written or held
pub record Encoding (how : Encode) (start now : InputState) (held : List ℕ) (before after : WriterState) : Type 0 where
  pub frames : List (List ℕ)
  pub gave : Gave packet_lines start frames now
  pub holds : Holds before after (encoding how frames) held
  pub failures : after.failures ≡ before.failures

encoding-append : (how : Encode) (xs ys : List (List ℕ)) → encoding how (xs ++ ys) ≡ encoding how xs ++ encoding how ys
encoding-append how xs ys = flat_map-append (frame_line how) xs ys

encoding-one : (how : Encode) (frames : List (List ℕ)) (frame : List ℕ)
    → encoding how (frames ++ frame ∷ []) ≡ encoding how frames ++ frame_line how frame
encoding-one how frames frame = rw (encoding-append, append-nil) refl

-- a front of one line more is a front of all that is written, where the write failed
stopped : (how : Encode) {start now : InputState} (frames : List (List ℕ)) {before : WriterState} (after : WriterState)
    {then : WriterState} → Gave packet_lines start frames now → AppendsFront before then (encoding how frames)
    → after.failures ≡ before.failures → HasRisen after.failures then.failures
    → EncodesText how start before (Err Write) now then
stopped how {start} {now} frames {before} after {then} gave wrote same risen =
    ((go start.text now.text gave.text, gave.fault, gave.failures), rw same at risen)
  where
    go : (whole rest : Option (List ℕ))
        → IfSome whole (λ text. IsSomeAnd rest (λ more. Gives packet_lines start frames now text more))
        → IfSome whole (λ text. AppendsFront before then (encoding how (frames_in start text).said))
    go None rest gives = tt
    go (Some text) None gives = absurd gives
    go (Some text) (Some rest) gives =
        rw (in_whole packet_lines start now frames text rest gives, encoding-append how frames)
        (AppendsFront-more before then (encoding how frames) _ wrote)

module _ {how : Encode} {start : InputState} {before : WriterState} where
  pub Encoding-start : start.fault ≡ None → Encoding how start start [] before before
  Encoding-start fault =
      record { frames = []; gave = Gave-none packet_lines start fault; holds = Holds-same before []; failures = refl }

  module _ {now : InputState} {held : List ℕ} {after : WriterState} (so_far : Encoding how start now held before after)
    where
      -- some of what was held was written
      pub Encoding-wrote : {left : List ℕ} {then : WriterState} → Holds after then held left
          → then.failures ≡ after.failures → Encoding how start now left before then
      Encoding-wrote wrote same = record {
        frames = so_far.frames;
        gave = so_far.gave;
        holds = Holds-wrote _ _ _ _ _ _ so_far.holds wrote;
        failures = same ∙ so_far.failures;
      }

      pub Encoding-packet : {new : InputState} {left : List ℕ} {then : WriterState} (packet : Packet)
          → AnswersSaid packet_words spelling now (Ok (Some packet)) new
          → Holds after then (held ++ frame_line how (spelling packet)) left
          → then.failures ≡ after.failures → Encoding how start new left before then
      Encoding-packet {new} packet answer holds same =
          record {
            frames = so_far.frames ++ spelling packet ∷ [];
            gave = Gave-append packet_lines start now new so_far.frames (spelling packet ∷ []) so_far.gave answer.0;
            holds = rw (encoding-one how so_far.frames (spelling packet))
                (Holds-append _ _ _ _ _ _ _ so_far.holds holds);
            failures = same ∙ so_far.failures;
          }

      -- a write failed where a line was to be held
      pub stops_at_write : (new : InputState) {then : WriterState} (packet : Packet)
          → AnswersSaid packet_words spelling now (Ok (Some packet)) new
          → AppendsFront after then (held ++ frame_line how (spelling packet))
          → HasRisen after.failures then.failures → EncodesText how start before (Err Write) new then
      stops_at_write new {then} packet answer wrote risen =
          stopped how (so_far.frames ++ spelling packet ∷ []) after
          (Gave-append packet_lines start now new so_far.frames (spelling packet ∷ []) so_far.gave answer.0)
          (rw (encoding-one how so_far.frames (spelling packet)) (Holds-fails_with _ _ _ _ _ _ so_far.holds wrote))
          so_far.failures risen

      -- a write of what was held failed
      pub stops_before_read : {then : WriterState} → AppendsFront after then held
          → HasRisen after.failures then.failures
          → EncodesText how start before (Err Write) now then
      stops_before_read wrote risen =
          stopped how so_far.frames after so_far.gave (Holds-fails _ _ _ _ _ so_far.holds wrote) so_far.failures risen

-- the input has ended, and what was held was written
pub encodes_all : (how : Encode) (start now new : InputState) (held left : List ℕ) (before after then : WriterState)
    → Encoding how start now held before after → AnswersSaid packet_words spelling now (Ok None) new
    → WritesOut after held left then → EncodesText how start before (Ok tt) new then
encodes_all how start now new held left before after then so_far answer wrote =
    writes_all packet_words spelling start now new so_far.frames (Encodes how before then)
    (λ frames. AppendsFront before then (encoding how frames)) before then so_far.gave
    (Holds-rest before after then (encoding how so_far.frames) held so_far.holds wrote.1) (wrote.2 ∙ so_far.failures)
    answer

-- the input has a fault, and what was held was written
pub encodes_up_to : (how : Encode) (start now new : InputState) (held left : List ℕ) (before after then : WriterState)
    (fault : KeptFault) → Encoding how start now held before after
    → AnswersSaid packet_words spelling now (Err fault) new
    → WritesOut after held left then → EncodesText how start before (Err (as_tool_fault fault)) new then
encodes_up_to how start now new held left before after then fault so_far answer wrote =
    writes_up_to packet_words spelling start now new so_far.frames (Encodes how before then)
    (λ frames. AppendsFront before then (encoding how frames)) before then so_far.gave
    (Holds-rest before after then (encoding how so_far.frames) held so_far.holds wrote.1) (wrote.2 ∙ so_far.failures)
    fault answer
