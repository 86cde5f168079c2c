-- What `encode` with a station writes, `show` lists.
use Rattle.std.proofs.Common.{◌≡◌, ℕ, ◌+◌, ◌-◌, ◌<◌, ◌≤◌, ◌⊎◌, inl, inr, zero, suc, Bool, true, false, ◌||◌, ◌&&◌}
use Rattle.std.proofs.Common.{List, [], ◌∷◌, ◌++◌, length, drop, Option, Some, None, IfSome, Result, Ok}
use Rattle.std.proofs.Common.{if◌then◌else◌, refl, sym, ap, ◌∙◌, subst, arith, length-append, append_assoc, nat_le}
use Rattle.std.proofs.Common.{codes}
use Rattle.std.proofs.lemmas.Bool.{and_parts}
use Rattle.std.specs.List.{AllByRecursion}
use Rattle.dcc_wire.specs.declared.seen.Seen.{Seen}
use Rattle.dcc_wire.specs.Frames.{IsFrame}
use Rattle.dcc_wire.specs.Framing.{seen}
use Rattle.dcc_wire.specs.Sending.{sent, sent_all, at_last_halves}
use Rattle.dcc_wire.proofs.SendingLemmas.{seen-sent_all}
use Rattle.dcc_packet.specs.declared.packet.Packet.{Packet}
use Rattle.dcc_packet.specs.declared.packet.Packet.TheVariants.{Idle}
use Rattle.dcc_packet.specs.Spelling.{spelling}
use Rattle.dcc_packet.proofs.AllLemmas.{all_append, all_dropped}
use Rattle.dcc_packet.proofs.FrameSpellings.{spellings_are_frames}
use Rattle.dcc_station.specs.Commands.{is_refreshed}
use Rattle.dcc_station.specs.Sending as sending
use Rattle.dcc_station.specs.declared.fault.Refused.{Refused}
use Rattle.dcc_station.specs.declared.fault.Refused.TheVariants.{NotSendable, QueueFull}
use Rattle.dcc_io.specs.FramesSaid.{AsksForFrame}
use Rattle.dcc_io.specs.InputState.{InputState, closed_text}
use Rattle.dcc_io.specs.Items.{Items, items_behind, EndsWith, in_text}
use Rattle.dcc_io.specs.StationLines.{Asked, Command, Next, station_lines}
use Rattle.dcc_io.specs.TextPlace.{TextPlace}
use Rattle.dcc_io.specs.Words.{PlacedWord, ended_words, is_gap, comments}
use Rattle.dcc_io.specs.WriterState.{WriterState}
use Rattle.dcc_io.proofs.FramesSaid.{station_lines_say_frames}
use Rattle.dcc_io.proofs.HandLemmas.{outside}
use Rattle.dcc_io.proofs.WordsLemmas.{behind, opened-gap, opened-none}
use Rattle.dcc_capture.specs.Capture.{capture_in, halves_of_words}
use Rattle.dcc_capture.specs.Listing.{IsListing}
use Rattle.dcc_capture.specs.Shown.{WritesListing, Shows}
use Rattle.dcc_capture.proofs.CaptureLemmas.{enough}
use Rattle.dcc_capture.proofs.NumbersTaken.{numbers_taken}
use Rattle.dcc_send.specs.declared.encoding.Encode.{Encode}
use Rattle.dcc_send.specs.Encoded.{frame_line, spaced_numbers, timing_of}
use Rattle.dcc_send.specs.StationEncoded.{Answers, AnswersAll, after_command, command_line, refusal, refusal_line}
use Rattle.dcc_tool.specs.EncodedShown.{halves_to_send}
use Rattle.dcc_tool.specs.StationShown.{HandsOutFrames, StationPacketsAreShown}
use Rattle.dcc_tool.proofs.EncodedShown.{SaysHalves, all_frames, empty_text_says, frame_line_says, shown}
use Rattle.dcc_tool.proofs.Written.{station_writes_its_answers}

-- a packet whose spelling is a frame
abbrev IsSpelled : Packet → Type 0
IsSpelled packet = IsFrame (spelling packet)

-- a station that has such packets
record SpellsFrames (s : sending.Sending) : Type 0 where
  waiting : AllByRecursion IsSpelled s.waiting
  entries : AllByRecursion IsSpelled s.entries

what_is_left : (p : Packet) (entries kept : List Packet) → sending.Leaves p entries kept
    → AllByRecursion IsSpelled entries
    → AllByRecursion IsSpelled kept
what_is_left p [] kept leaves all = subst (AllByRecursion IsSpelled) (sym leaves) tt
what_is_left p (entry ∷ entries) kept (inl gone) all = what_is_left p entries kept gone.1 all.1
what_is_left p (entry ∷ entries) kept (inr stays) all =
    subst (AllByRecursion IsSpelled) (sym stays.1.1) (all.0, what_is_left p entries stays.1.0 stays.1.2 all.1)

what_is_refreshed : (slots : ℕ) (p : Packet) (entries after : List Packet) → IsSpelled p
    → AllByRecursion IsSpelled entries
    → sending.Refreshes slots p entries after → AllByRecursion IsSpelled after
what_is_refreshed slots p entries after is all refreshes =
    subst (AllByRecursion IsSpelled) (sym refreshes.2) (go (is_refreshed p))
  where
    kept : AllByRecursion IsSpelled refreshes.0
    kept = what_is_left p entries refreshes.0 refreshes.1 all

    go : (refreshed : Bool)
        → AllByRecursion IsSpelled (if refreshed then sending.with_entry slots refreshes.0 p else refreshes.0)
    go true =
        all_dropped IsSpelled (length (refreshes.0 ++ p ∷ []) - slots) (refreshes.0 ++ p ∷ [])
        (all_append IsSpelled refreshes.0 (p ∷ []) kept (is, tt))
    go false = kept

entries_after : (sent slots : ℕ) (p : Packet) (entries after : List Packet) → IsSpelled p
    → AllByRecursion IsSpelled entries
    → sending.EntriesAfter sent slots p entries after → AllByRecursion IsSpelled after
entries_after zero slots p entries after is all h = what_is_refreshed slots p entries after is all h
entries_after (suc sent) slots p entries after is all h = subst (AllByRecursion IsSpelled) (sym h) all

sent_once_more : (s : sending.Sending) (p : Packet) (rest after : List Packet) → IsSpelled p
    → AllByRecursion IsSpelled rest
    → AllByRecursion IsSpelled s.waiting → AllByRecursion IsSpelled after
    → SpellsFrames (sending.sent_once_more s p rest after)
sent_once_more s p rest after is more waiting entries = go (nat_le (sending.copies s.repeats p) (s.sent + 1))
  where
    go : (done : Bool)
        → SpellsFrames (if done then record s { waiting = rest; stopping = false; sent = 0; entries = after }
        else record s { sent = s.sent + 1; entries = after })
    go true = record { waiting = more; entries = entries }
    go false = record { waiting = waiting; entries = entries }

-- the stop is spelled, and so are the commands that wait
all_outgoing : (stopping : Bool) (waiting : List Packet) → AllByRecursion IsSpelled waiting
    → AllByRecursion IsSpelled (sending.with_stop stopping waiting)
all_outgoing true waiting all = (spellings_are_frames sending.stop_packet tt, all)
all_outgoing false waiting all = all

-- what a station hands out is spelled, and so is what it then has
handed_out : (waiting entries : List Packet) (s : sending.Sending) (out : Packet) (new : sending.Sending)
    → AllByRecursion IsSpelled waiting → AllByRecursion IsSpelled entries → SpellsFrames s
    → sending.HandsOut waiting entries s out new → IsSpelled out × SpellsFrames new
handed_out (p ∷ rest) entries s out new waits all spells h = (
  subst IsSpelled (sym h.0) waits.0,
  subst SpellsFrames (sym h.1.2)
      (sent_once_more s p rest h.1.0 waits.0 waits.1 spells.waiting
      (entries_after s.sent s.slots p entries h.1.0 waits.0 all h.1.1)),
)
handed_out [] (entry ∷ later) s out new waits all spells h = (
  subst IsSpelled (sym h.0) all.0,
  subst SpellsFrames (sym h.1)
      (record { waiting = spells.waiting; entries = all_append IsSpelled later (entry ∷ []) all.1 (all.0, tt) }),
)
handed_out [] [] s out new waits all spells h =
    (subst IsSpelled (sym h.0) (spellings_are_frames Idle tt), subst SpellsFrames (sym h.1) spells)

commanded : (s : sending.Sending) (p : Packet) (refused : Option Refused) → IsSpelled p → SpellsFrames s
    → SpellsFrames (after_command s p refused)
commanded s p None is spells =
    record { waiting = all_append IsSpelled s.waiting (p ∷ []) spells.waiting (is, tt); entries = spells.entries }
commanded s p (Some refused) is spells = spells

-- each of these bytes is a gap or stands in a comment
abbrev are_passed : TextPlace → List ℕ → Bool
are_passed place [] = true
are_passed place (byte ∷ bytes) =
    (comments place.in_comment byte || is_gap byte) && are_passed (behind place byte) bytes

abbrev behind_all : TextPlace → List ℕ → TextPlace
behind_all place [] = place
behind_all place (byte ∷ bytes) = behind_all (behind place byte) bytes

passed_all : (place : TextPlace) (bytes more : List ℕ) → are_passed place bytes ≡ true
    → ended_words place (bytes ++ more) ≡ ended_words (behind_all place bytes) more
passed_all place [] more all = refl
passed_all place (byte ∷ bytes) more all =
    let parts = and_parts (comments place.in_comment byte || is_gap byte) (are_passed (behind place byte) bytes) all in
    sym (opened-none place (byte ∷ bytes ++ more)) ∙ opened-gap place [] byte (bytes ++ more) parts.0
    ∙ passed_all (behind place byte) bytes more parts.1

-- a comment says nothing
comment_back : (refused : Refused) (line : ℕ) (more : List ℕ)
    → ended_words (outside line) (refusal_line refused ++ more) ≡ ended_words (outside (line + 1)) more
unfolding is_gap comments
comment_back NotSendable line more = passed_all (outside line) (refusal_line NotSendable) more refl
comment_back QueueFull line more = passed_all (outside line) (refusal_line QueueFull) more refl

behind_command : (how : Encode) (refused : Option Refused) (rest : List ℕ) (frames : List (List ℕ))
    → SaysHalves how rest frames
    → SaysHalves how (command_line refused ++ rest) frames
behind_command how None rest frames says most line in_halves fits = says most line in_halves fits
behind_command how (Some refused) rest frames says most line in_halves fits =
    ap (λ (text : List ℕ). halves_of_words most (ended_words (outside line) text) None)
    (append_assoc (refusal_line refused) rest (10 ∷ []))
    ∙ ap (λ (words : List PlacedWord). halves_of_words most words None) (comment_back refused line (rest ++ 10 ∷ []))
    ∙ says most (line + 1) in_halves fits

-- the frames that a station hands out, and its text
record Handed (how : Encode) (s : sending.Sending) (items : List Asked) (text : List ℕ) (new : sending.Sending) : Type 0
  where
    frames : List (List ℕ)
    hands_out : HandsOutFrames s items frames new
    are : AllByRecursion IsFrame frames
    says : SaysHalves how text frames

answered : (how : Encode) (s : sending.Sending) (items : List Asked) (text : List ℕ) (new : sending.Sending)
    → SpellsFrames s
    → AllByRecursion AsksForFrame items → AnswersAll how s items text new → Handed how s items text new
answered how s [] text new spells asks answers =
    rw answers.0
    (record {
      frames = [];
      hands_out = (refl, answers.1);
      are = tt;
      says = empty_text_says how;
    })
answered how s (Command frame ∷ items) text new spells asks answers =
    let command = answers.4 in
    let refused = refusal s command.0 in
    let is : IsSpelled command.0 = subst IsFrame (sym command.1) asks.0 in
    let later = answered how (after_command s command.0 refused) items answers.2 new
    (commanded s command.0 refused is spells) asks.1
    (subst (λ (s : sending.Sending). AnswersAll how s items answers.2 new) command.3 answers.5) in
    subst (λ (text : List ℕ). Handed how s (Command frame ∷ items) text new)
    (ap (λ (first : List ℕ). first ++ answers.2) (sym command.2) ∙ sym answers.3)
    (record {
      frames = later.frames;
      hands_out = (command.0, command.1, later.hands_out);
      are = later.are;
      says = behind_command how refused answers.2 later.frames later.says;
    })
answered how s (Next ∷ items) text new spells asks answers =
    let next = answers.4 in
    let out = handed_out (sending.outgoing s) s.entries s next.0 answers.0
    (all_outgoing s.stopping s.waiting spells.waiting) spells.entries spells next.1 in
    let later = answered how answers.0 items answers.2 new out.1 asks.1 answers.5 in
    subst (λ (text : List ℕ). Handed how s (Next ∷ items) text new)
    (ap (λ (first : List ℕ). first ++ answers.2) (sym next.2) ∙ sym answers.3)
    (record {
      frames = spelling next.0 ∷ later.frames;
      hands_out = (next.0, answers.0, later.frames, next.1, refl, later.hands_out);
      are = (out.0, later.are);
      says = frame_line_says how (spelling next.0) answers.2 later.frames later.says;
    })

pub station_packets_are_shown : StationPacketsAreShown
station_packets_are_shown how queue slots repeats lines lines' from to text told answers known empty gained =
    let start = sending.idle_sending queue slots repeats in
    let wrote = station_writes_its_answers how start lines lines' from to text answers known in
    let handed = answered how start (in_text station_lines lines text).said wrote.1 wrote.0
    (record { waiting = tt; entries = tt }) (station_lines_say_frames lines text) wrote.2 in
    let same : wrote.1 ≡ told = cc (sym (wrote.3 [] empty) ∙ gained) in (
      handed.frames,
      wrote.0,
      handed.hands_out,
      λ words capture capture' before after takes whole shows.
          shown how handed.frames told words capture capture' before after
          (subst (λ (text : List ℕ). SaysHalves how text handed.frames) same handed.says) takes
          (all_frames how handed.frames handed.are) whole shows,
    )
