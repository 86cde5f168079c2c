-- What `encode` writes, `show` lists.
use Rattle.std.proofs.Common.{◌≡◌, ℕ, ◌+◌, ◌-◌, ◌<◌, ◌≤◌, List, [], ◌∷◌, ◌++◌, length, Bool, true, false, Option, None}
use Rattle.std.proofs.Common.{Some}
use Rattle.std.proofs.Common.{Ok, IfSome, cond, refl, sym, ap, ◌∙◌, subst, arith, length-append, append_assoc}
use Rattle.std.specs.Fmt.{decimal}
use Rattle.std.specs.List.{flat_map, AllByRecursion}
use Rattle.dcc_wire.specs.declared.seen.Seen.{Seen}
use Rattle.dcc_wire.specs.declared.timing.Timing.{Timing}
use Rattle.dcc_wire.specs.NominalTimings.{main_timing, service_timing}
use Rattle.dcc_wire.specs.Framing.{seen}
use Rattle.dcc_wire.specs.Frames.{IsFrame}
use Rattle.dcc_wire.specs.Sending.{AllFrames, durations_of, sent_bits, sent, sent_all}
use Rattle.dcc_wire.proofs.SendingLemmas.{seen-sent_all}
use Rattle.dcc_io.specs.Spaced.{behind_space}
use Rattle.dcc_io.specs.Items.{Items, items_behind, EndsWith, in_text}
use Rattle.dcc_io.specs.PacketLines.{packet_lines}
use Rattle.dcc_io.specs.Words.{PlacedWord, ended_words}
use Rattle.dcc_io.specs.InputState.{InputState, closed_text}
use Rattle.dcc_io.specs.WriterState.{WriterState}
use Rattle.dcc_io.proofs.FramesSaid.{packet_lines_say_frames}
use Rattle.dcc_io.proofs.HandLemmas.{outside}
use Rattle.dcc_io.proofs.NumberWords.{IsSmall, number_words, numbers_back, empty_line_back}
use Rattle.dcc_capture.specs.Capture.{capture_in, halves_of_words}
use Rattle.dcc_capture.specs.Listing.{IsListing}
use Rattle.dcc_capture.proofs.CaptureLemmas.{enough}
use Rattle.dcc_capture.proofs.NumbersTaken.{numbers_taken}
use Rattle.dcc_capture.specs.Shown.{WritesListing, Shows}
use Rattle.dcc_send.specs.declared.encoding.Encode.{Encode}
use Rattle.dcc_send.specs.Encoded.{frame_line, spaced_numbers, timing_of, encoding}
use Rattle.dcc_tool.specs.EncodedShown.{TakesText, ListsSent, to_send, halves_to_send, EncodingsAreCaptures}
use Rattle.dcc_tool.specs.EncodedShown.{EncodedFramesAreSeen, EncodingsAreShown, PacketLinesAreShown}
use Rattle.dcc_tool.proofs.Written.{encode_writes_the_encoding}

-- the durations of a timing are of 16 bits
record IsShort (timing : Timing) : Type 0 where
  one : IsSmall timing.one
  zero_first : IsSmall timing.zero_first
  zero_second : IsSmall timing.zero_second

durations_small : (timing : Timing) (bits : List Bool) → IsShort timing
    → AllByRecursion IsSmall (durations_of timing bits)
unfolding durations_of
durations_small timing [] short = tt
durations_small timing (true ∷ bits) short = (short.one, (short.one, durations_small timing bits short))
durations_small timing (false ∷ bits) short =
    (short.zero_first, (short.zero_second, durations_small timing bits short))

short_timing : (how : Encode) → IsShort (timing_of how)
short_timing how = go how.service
  where
    go : (service : Bool) → IsShort (cond service service_timing main_timing)
    go true = record { one = omega arith; zero_first = omega arith; zero_second = omega arith }
    go false = record { one = omega arith; zero_first = omega arith; zero_second = omega arith }

pub sent_small : (how : Encode) (frame : List ℕ) → AllByRecursion IsSmall (sent frame (timing_of how))
unfolding sent
sent_small how frame =
    durations_small (timing_of how) (sent_bits frame (timing_of how).preamble) (short_timing how)

-- a line of numbers is read as its words
pub line_back : (line : ℕ) (ns more : List ℕ) → AllByRecursion IsSmall ns
    → ended_words (outside line) ((spaced_numbers ns ++ 10 ∷ []) ++ more) ≡ number_words line ns
    ++ ended_words (outside (line + 1)) more
line_back line [] more small = empty_line_back line more
line_back line (n ∷ ns) more small =
    ap (ended_words (outside line))
    (append_assoc (spaced_numbers (n ∷ ns)) (10 ∷ []) more
    ∙ append_assoc (decimal n) (flat_map behind_space ns) (10 ∷ more))
    ∙ numbers_back line n ns more small

-- a capture with this text and the line feed that closes it holds just the half-bits of these frames
abbrev pub SaysHalves : Encode → List ℕ → List (List ℕ) → Type 0
SaysHalves how text frames = (most line : ℕ) → how.hex ≡ false → length (halves_to_send how frames) ≤ most
    → halves_of_words most (ended_words (outside line) (text ++ 10 ∷ [])) None
    ≡ record { said = halves_to_send how frames; fault = None }

pub empty_text_says : (how : Encode) → SaysHalves how [] []
unfolding sent_all
empty_text_says how most line in_halves fits =
    ap (λ (ws : List PlacedWord). halves_of_words most ws None) (empty_line_back line [])

pub frame_line_says : (how : Encode) (frame rest : List ℕ) (frames : List (List ℕ)) → SaysHalves how rest frames
    → SaysHalves how (frame_line how frame ++ rest) (frame ∷ frames)
unfolding sent_all
frame_line_says how frame rest frames says most line in_halves fits =
    ap (λ (t : List ℕ). halves_of_words most (ended_words (outside line) ((t ++ rest) ++ 10 ∷ [])) None)
    (rw in_halves refl)
    ∙ ap (λ (t : List ℕ). halves_of_words most (ended_words (outside line) t) None)
    (append_assoc (spaced_numbers (sent frame (timing_of how)) ++ 10 ∷ []) rest (10 ∷ []))
    ∙ ap (λ (ws : List PlacedWord). halves_of_words most ws None)
    (line_back line (sent frame (timing_of how)) (rest ++ 10 ∷ []) (sent_small how frame))
    ∙ numbers_taken most line (sent frame (timing_of how)) (ended_words (outside (line + 1)) (rest ++ 10 ∷ [])) None
    (sent_small how frame) (omega (arith, both))
    ∙ ap (items_behind (sent frame (timing_of how)))
    (says (most - length (sent frame (timing_of how))) (line + 1) in_halves (omega (arith, both)))
  where
    both : length (sent frame (timing_of how)) + length (halves_to_send how frames) ≤ most
    both = subst (λ n. n ≤ most) (length-append (sent frame (timing_of how)) (halves_to_send how frames)) fits

encoding_says : (how : Encode) (frames : List (List ℕ)) → SaysHalves how (encoding how frames) frames
encoding_says how [] = empty_text_says how
encoding_says how (frame ∷ frames) = frame_line_says how frame (encoding how frames) frames (encoding_says how frames)

captured : (how : Encode) (frames : List (List ℕ)) (text : List ℕ) (input : InputState) → SaysHalves how text frames
    → TakesText how frames text input
    → capture_in input (text ++ 10 ∷ []) ≡ record { said = halves_to_send how frames; fault = None }
captured how frames text input says takes =
    rw (enough (length (text ++ 10 ∷ [])) input.bytes (within takes.bytes))
    (ap (λ (in_comment : Bool).
    halves_of_words input.halves
    (ended_words (record { line = input.place.line; in_comment = in_comment }) (text ++ 10 ∷ [])) None)
    takes.in_no_comment
    ∙ says input.halves input.place.line takes.in_halves takes.halves)
  where
    within : length text < input.bytes → length (text ++ 10 ∷ []) ≤ input.bytes
    within fewer = omega (arith, fewer, length-append text (10 ∷ []))

pub shown : (how : Encode) (frames : List (List ℕ)) (text : List ℕ) (words : Bool) (old new : InputState)
    (before after : WriterState) → SaysHalves how text frames → TakesText how frames text old
    → AllFrames (to_send how frames)
    → old.text ≡ closed_text false (Some text) → Shows words old before (Ok tt) new after
    → ListsSent words before after (to_send how frames)
shown how frames text words old new before after says takes are whole shows =
    let ends = subst
    (λ (text : Option (List ℕ)).
    IfSome text (λ text. EndsWith None
    (λ halves. WritesListing words before after halves × (new.halves + length halves ≡ old.halves))
    (capture_in old text)))
    whole shows.0.items.0 in
    let lists = ends.1.0 in (
      lists.0,
      subst (λ (outcomes : List (ℕ × Seen)). IsListing words outcomes lists.0)
          (ap (λ (items : Items ℕ). seen items.said) (captured how frames text old says takes)
          ∙ seen-sent_all (to_send how frames) are)
          lists.1,
      lists.2,
    )

pub encodings_are_captures : EncodingsAreCaptures
encodings_are_captures how frames input takes =
    captured how frames (encoding how frames) input (encoding_says how frames) takes

pub encoded_frames_are_seen : EncodedFramesAreSeen
encoded_frames_are_seen how frames input takes are =
    ap (λ (items : Items ℕ). seen items.said) (encodings_are_captures how frames input takes)
    ∙ seen-sent_all (to_send how frames) are

pub encodings_are_shown : EncodingsAreShown
encodings_are_shown how frames words old new before after takes are whole shows =
    shown how frames (encoding how frames) words old new before after (encoding_says how frames) takes are whole shows

pub all_frames : (how : Encode) (frames : List (List ℕ)) → AllByRecursion IsFrame frames
    → AllFrames (to_send how frames)
unfolding AllFrames
all_frames how [] are = tt
all_frames how (frame ∷ frames) are = (are.0, all_frames how frames are.1)

pub packet_lines_are_shown : PacketLinesAreShown
packet_lines_are_shown how words lines lines' capture capture' from to before after text encoded encodes known empty
    gained takes whole shows =
    encodings_are_shown how (in_text packet_lines lines text).said words capture capture' before after takes
    (all_frames how (in_text packet_lines lines text).said (packet_lines_say_frames lines text))
    (whole ∙ ap (λ (text : Option (List ℕ)). closed_text false text) is) shows
  where
    is : Some encoded ≡ Some (encoding how (in_text packet_lines lines text).said)
    is = sym gained ∙ encode_writes_the_encoding how lines lines' from to text encodes known [] empty
