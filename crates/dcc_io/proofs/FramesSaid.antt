-- The packet lines of a text say frames.
use Rattle.std.proofs.Common.{◌≡◌, ℕ, ◌-◌, Bool, true, false, not, List, [], ◌∷◌, length, take, Option}
use Rattle.std.proofs.Common.{Some, None}
use Rattle.std.proofs.Common.{Result, Ok, Err, if◌then◌else◌, refl, codes, nat_le, subst, zero, suc}
use Rattle.std.specs.Prelude.{replicate}
use Rattle.std.specs.List.{AllByRecursion}
use Rattle.dcc_wire.specs.Frames.{IsFrame}
use Rattle.dcc_packet.specs.declared.fault.PacketFault.{PacketFault}
use Rattle.dcc_packet.specs.declared.fault.PacketFault.TheVariants as faults
use Rattle.dcc_packet.specs.Fields.{whole}
use Rattle.dcc_packet.specs.Line.{frame_of_words}
use Rattle.dcc_packet.specs.Words.{Word, is_word, words}
use Rattle.dcc_packet.proofs.AllLemmas.{all_append}
use Rattle.dcc_packet.proofs.LinesSayFrames.{lines_say_frames}
use Rattle.dcc_io.specs.declared.fault.KeptFault.{KeptFault}
use Rattle.dcc_io.specs.declared.fault.KeptFault.TheVariants as kept
use Rattle.dcc_io.specs.declared.station_line.SendCount.{SendCount}
use Rattle.dcc_io.specs.FramesSaid.{PacketLinesSayFrames, AsksForFrame, StationLinesSayFrames}
use Rattle.dcc_io.specs.InputState.{InputState}
use Rattle.dcc_io.specs.Items.{Items, only_fault}
use Rattle.dcc_io.specs.NumberedLines.{NumberedLine, is_good, lines_from}
use Rattle.dcc_io.specs.PacketLines.{Saying, behind_line, behind_words, is_skipped, items_in, items_of}
use Rattle.dcc_io.specs.PacketLines.{packet_words}
use Rattle.dcc_io.specs.StationLines.{Asked, Command, Next, command_of, packets_of, send_field, station_requests}
use Rattle.dcc_io.specs.StationLines.{station_words}

module _ {A B : Type 0} (saying : Saying A B) (P : A → Type 0)
    (fact : (words : List Word) (says : B) → saying.said words ≡ Ok says → AllByRecursion P (saying.items says)) where
  words_are : (words : List Word) (number : ℕ) (rest : Items A) → AllByRecursion P rest.said
      → AllByRecursion P (behind_words saying number (saying.said words) rest).said
  words_are words number rest more = go (saying.said words) refl
    where
      go : (said : Result B PacketFault) → saying.said words ≡ said
          → AllByRecursion P (behind_words saying number said rest).said
      go (Ok says) is = all_append P (saying.items says) rest.said (fact words says is) more
      go (Err fault) is = tt

  line_is : (line : NumberedLine) (rest : Items A) → AllByRecursion P rest.said
      → AllByRecursion P (behind_line saying line rest).said
  line_is line rest more = go (is_good line.bytes) (is_skipped line.bytes)
    where
      go : (good skipped : Bool)
          → AllByRecursion P (if not good then only_fault (Some (kept.Line line.number faults.Word))
          else if skipped then rest
          else behind_words saying line.number (saying.said (words line.bytes)) rest).said
      go false skipped = tt
      go true true = more
      go true false = words_are (words line.bytes) line.number rest more

  lines_are : (lines : List NumberedLine) (last : Option KeptFault) → AllByRecursion P (items_of saying lines last).said
  lines_are [] last = tt
  lines_are (line ∷ []) last = go (is_good line.bytes)
    where
      go : (good : Bool) → AllByRecursion P (if good then only_fault last
          else only_fault (Some (kept.Line line.number faults.Word))).said
      go true = tt
      go false = tt
  lines_are (line ∷ next ∷ lines) last =
      line_is line (items_of saying (next ∷ lines) last) (lines_are (next ∷ lines) last)

  text_is : (input : InputState) (text : List ℕ) → AllByRecursion P (items_in saying input text).said
  text_is input text = go (nat_le (length text) input.bytes)
    where
      go : (fits : Bool) → AllByRecursion P (if fits then items_of saying (lines_from input.place.line text) None
          else items_of saying (lines_from input.place.line (take (input.bytes - 1) text)) (Some kept.TooMuch)).said
      go true = lines_are (lines_from input.place.line text) None
      go false = lines_are (lines_from input.place.line (take (input.bytes - 1) text)) (Some kept.TooMuch)

pub packet_lines_say_frames : PacketLinesSayFrames
packet_lines_say_frames = text_is packet_words IsFrame (λ words frame is. (lines_say_frames words frame is, tt))

all_next : (n : ℕ) → AllByRecursion AsksForFrame (replicate n Next)
all_next zero = tt
all_next (suc n) = (tt, all_next n)

sends : (read : Result SendCount PacketFault) (items : List Asked) → packets_of read ≡ Ok items
    → AllByRecursion AsksForFrame items
sends (Ok send) items is =
    let same : replicate send.count Next ≡ items = cc is in
    subst (AllByRecursion AsksForFrame) same (all_next send.count)
sends (Err fault) items is = absurd (cc)

commands : (line : List Word) (read : Result (List ℕ) PacketFault) (items : List Asked) → frame_of_words line ≡ read
    → command_of read ≡ Ok items → AllByRecursion AsksForFrame items
commands line (Ok frame) items is e =
    let same : Command frame ∷ [] ≡ items = cc e in
    subst (AllByRecursion AsksForFrame) same (lines_say_frames line frame is, tt)
commands line (Err fault) items is e = absurd (cc)

requests : (words : List Word) (items : List Asked) → station_requests words ≡ Ok items
    → AllByRecursion AsksForFrame items
unfolding station_requests
requests [] items is = commands [] (frame_of_words []) items refl is
requests (word ∷ rest) items is = go (is_word word (codes "send")) is
  where
    go : (send : Bool)
        → (if send then packets_of (whole send_field rest) else command_of (frame_of_words (word ∷ rest))) ≡ Ok items
        → AllByRecursion AsksForFrame items
    go true is = sends (whole send_field rest) items is
    go false is = commands (word ∷ rest) (frame_of_words (word ∷ rest)) items refl is

pub station_lines_say_frames : StationLinesSayFrames
station_lines_say_frames = text_is station_words AsksForFrame requests
