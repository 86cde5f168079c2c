-- What a call has written that answers Ok.
use Rattle.std.proofs.Common.{◌≡◌, ℕ, ◌++◌, List, Option, Some, None, IfSome, subst, ap}
use Rattle.std.specs.Io.KnownBytes.{Appends}
use Rattle.dcc_wire.specs.Framing.{seen}
use Rattle.dcc_io.specs.InputState.{InputState}
use Rattle.dcc_io.specs.Items.{Grammar, EndsWith, in_text}
use Rattle.dcc_io.specs.PacketLines.{packet_lines}
use Rattle.dcc_io.specs.StationLines.{station_lines}
use Rattle.dcc_io.specs.Calls.{ReadsAll}
use Rattle.dcc_io.specs.WriterState.{WriterState}
use Rattle.dcc_capture.specs.Capture.{captures}
use Rattle.dcc_capture.specs.Listing.{listing}
use Rattle.dcc_capture.proofs.ListingLaws.{lists_in_hex}
use Rattle.dcc_listen.specs.FleetRun.{HaveHeard}
use Rattle.dcc_send.specs.Encoded.{Encodes}
use Rattle.dcc_send.specs.ProgrammingTrackReading.{reading_text}
use Rattle.dcc_send.specs.StationEncoded.{Answered}
use Rattle.dcc_tool.specs.Written.{Gains, halves_said, ShowWritesTheListing, EncodeWritesTheEncoding}
use Rattle.dcc_tool.specs.Written.{LostWithSpikesWritesTheFoundPackets, LostWritesTheLostPackets, RunWritesTheDecoders}
use Rattle.dcc_tool.specs.Written.{ShowPlainWritesAListing, ShowWritesAListing, TimingWritesTheFigures}
use Rattle.dcc_tool.specs.Written.{StationWritesItsAnswers}
use Rattle.dcc_tool.specs.Written.{ReadcvWritesTheReading}
use Rattle.dcc_tool.specs.Written.{SameWritesTheVerdict, SameInputWritesTheVerdict, WhatWritesTheSentence}
use Rattle.dcc_io.specs.AllBytes.{bytes_of_text}
use Rattle.dcc_what.specs.Sentences.{what_text}

pub gains : (before after : WriterState) (bytes : List ℕ) → Appends before.contents after.contents bytes
    → Gains before after bytes
gains before after bytes appends had known =
    go after.contents (subst (λ was. Appends was after.contents bytes) known appends)
  where
    go : (now : Option (List ℕ)) → Appends (Some had) now bytes → now ≡ Some (had ++ bytes)
    go None written = absurd written
    go (Some ys) written = ap Some written

-- what is so of the items of an input that was read to its end is so of those that its text says
pub of_text : {A : Type 0} (grammar : Grammar A) (old new : InputState) (fact : List A → Type 0) (text : List ℕ)
    → ReadsAll grammar old new fact → old.text ≡ Some text → fact (in_text grammar old text).said
of_text grammar old new fact text reads known =
    (subst (λ whole. IfSome whole (λ text. EndsWith None fact (in_text grammar old text))) known reads.items.0).1

pub show_writes_the_listing : ShowWritesTheListing
show_writes_the_listing old new before after text shows known =
    let lists = (of_text captures old new _ text shows.0 known).0 in
    gains before after (listing (seen (halves_said old text)))
    (subst (Appends before.contents after.contents)
    ((lists_in_hex (seen (halves_said old text)) lists.0).0 lists.1) lists.2)

pub encode_writes_the_encoding : EncodeWritesTheEncoding
encode_writes_the_encoding how old new before after text encodes known =
    gains before after _ (of_text packet_lines old new (Encodes how before after) text encodes.0 known)

pub run_writes_the_decoders : RunWritesTheDecoders
run_writes_the_decoders starts ends old new before after text runs known = (
  of_text captures old new (HaveHeard starts ends) text runs.0.0 known,
  gains before after _ runs.0.1,
)

pub same_writes_the_verdict : SameWritesTheVerdict
same_writes_the_verdict who left left' right right' before after verdict compares =
    gains before after _ compares.0.1

pub same_input_writes_the_verdict : SameInputWritesTheVerdict
same_input_writes_the_verdict who old new before after verdict compares = gains before after _ compares.0.1

pub show_writes_a_listing : ShowWritesAListing
show_writes_a_listing words old new before after text shows known =
    let lists = (of_text captures old new _ text shows.0 known).0 in
    (lists.0, lists.1, gains before after lists.0 lists.2)

pub show_plain_writes_a_listing : ShowPlainWritesAListing
show_plain_writes_a_listing old new before after text shows known =
    let lists = (of_text captures old new _ text shows.0 known).0 in
    (lists.0, lists.1, gains before after lists.0 lists.2)

pub lost_writes_the_lost_packets : LostWritesTheLostPackets
lost_writes_the_lost_packets words old new before after text lists known =
    let lines = (of_text captures old new _ text lists.0 known).0 in
    (lines.0, lines.1, gains before after lines.0 lines.2)

pub lost_with_spikes_writes_the_found_packets : LostWithSpikesWritesTheFoundPackets
lost_with_spikes_writes_the_found_packets words limit old new before after text lists known =
    let lines = (of_text captures old new _ text lists.0 known).0 in
    (lines.0, lines.1, gains before after lines.0 lines.2)

pub timing_writes_the_figures : TimingWritesTheFigures
timing_writes_the_figures old new before after text times known =
    gains before after _ (of_text captures old new _ text times.0 known).0

pub station_writes_its_answers : StationWritesItsAnswers
station_writes_its_answers how start old new before after text answers known =
    let wrote = of_text station_lines old new (Answered how start before after) text answers.0 known in
    (wrote.0, wrote.1.bytes, wrote.1.answers, gains before after wrote.1.bytes wrote.1.written)

pub readcv_writes_the_reading : ReadcvWritesTheReading
readcv_writes_the_reading track cv value before after reads =
    (reads.0.0, gains before after (reading_text track cv) reads.0.1)

pub what_writes_the_sentence : WhatWritesTheSentence
what_writes_the_sentence old new before after text says known =
    gains before after _ (subst (λ (text : Option (List ℕ)).
    IfSome text (λ bytes. Appends before.contents after.contents (what_text (bytes_of_text bytes)))) known says.0.1)
