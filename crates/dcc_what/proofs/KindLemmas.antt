-- What the parsers return for the bytes of an input, and the kind of the input.
use Rattle.std.proofs.Common.{◌≡◌, ℕ, ◌*◌, List, nat_lt, length, Option, None, Some, Ok, Err, refl, sym}
use Rattle.std.proofs.Common.{subst, IfSome, inl, inr}
use Rattle.std.specs.List.{filter}
use Rattle.dcc_lost.specs.declared.figures.TrackFigures.{TrackFigures}
use Rattle.dcc_lost.specs.MeasuresTrack.{MeasuresTrack}
use Rattle.dcc_timing.specs.Classes.{is_above}
use Rattle.dcc_io.specs.declared.fault.KeptFault.{KeptFault}
use Rattle.dcc_io.specs.declared.fault.KeptFault.TheVariants.{Line, Number, TooMuch}
use Rattle.dcc_io.specs.InputState.{InputState}
use Rattle.dcc_capture.specs.Capture.{capture_in}
use Rattle.dcc_listen.specs.GatheredBoth.{GatheredBoth, ReadsBothUpTo, StopsBothAt, both_in}
use Rattle.dcc_listen.specs.Timed.{MeasuresCapture, StopsTiming}
use Rattle.dcc_packet.specs.declared.packet.Packet.{Packet}
use Rattle.std.proofs.lemmas.Option.{none-some}
use Rattle.dcc_packet.specs.declared.fault.PacketFault.{PacketFault}
use Rattle.dcc_io.specs.Items.{Gave, in_text, only_fault}
use Rattle.dcc_io.specs.PacketLines.{Saying, lines_by}
use Rattle.dcc_io.proofs.ItemsLemmas.{up_to_fault}
use Rattle.dcc_io.proofs.TookLemmas.{within_limit-stops}
use Rattle.dcc_saved.specs.declared.saved.Saved.{Saved}
use Rattle.dcc_saved.specs.DecoderText.{decoder_text}
use Rattle.dcc_saved.specs.TextRead.{Leads, ReadsValue, answer_at, answer_in}
use Rattle.dcc_saved.specs.TextReader.{done}
use Rattle.dcc_what.specs.declared.kind.Front.TheVariants as fronts
use Rattle.dcc_what.specs.declared.kind.Kind.TheVariants as kinds
use Rattle.dcc_what.specs.Kinds.{closed, marked_kind, text_kind, input_of_bytes}

-- the capture of an input that was read as a whole
abbrev halves_in : List ℕ → List ℕ
halves_in bytes = (capture_in (input_of_bytes bytes) (closed bytes)).said

abbrev fault_in : List ℕ → Option KeptFault
fault_in bytes = (capture_in (input_of_bytes bytes) (closed bytes)).fault

pub capture_measured : (bytes : List ℕ) (old new : InputState) (figures : TrackFigures) → old ≡ input_of_bytes bytes
    → MeasuresCapture old (Ok figures) new → (fault_in bytes ≡ None) × MeasuresTrack figures (halves_in bytes)
capture_measured bytes old new figures is reads =
    let all = subst (λ (state : InputState). MeasuresCapture state (Ok figures) new) is reads in
    (all.items.0.0, all.items.0.1.0)

pub kind_of_capture : (bytes : List ℕ) (halves above : ℕ) → fault_in bytes ≡ None → halves ≡ length (halves_in bytes)
    → above ≡ length (filter is_above (halves_in bytes))
    → kinds.Capture halves (nat_lt halves (2 * above)) ≡ text_kind bytes fronts.Halves
kind_of_capture bytes halves above none is_halves is_above = rw (none, is_halves, is_above) refl

-- the error of the two captures of an input that was read as a whole
abbrev both_fault : List ℕ → Option KeptFault
both_fault bytes = (both_in (input_of_bytes bytes) (closed bytes)).fault

pub kind_of_marked_capture : (bytes : List ℕ) (old new : InputState) (line : ℕ) → old ≡ input_of_bytes bytes
    → StopsTiming old (Number line) new → marked_kind line (both_fault bytes) ≡ text_kind bytes fronts.Halves
kind_of_marked_capture bytes old new line is stops =
    let stopped = subst (λ (state : InputState). StopsTiming state (Number line) new) is stops in
    let fault : fault_in bytes ≡ Some (Number line) = stopped.reads.items.0.0 in
    rw fault refl

-- two captures that were read, and two captures with an error
pub kind_of_two_captures : (bytes : List ℕ) (old new : InputState) (packets others : List Packet) (line : ℕ)
    → old ≡ input_of_bytes bytes → GatheredBoth old packets others new
    → kinds.TwoCaptures line ≡ marked_kind line (both_fault bytes)
kind_of_two_captures bytes old new packets others line is gathered =
    let both = subst (λ (state : InputState). GatheredBoth state packets others new) is gathered in
    let none : both_fault bytes ≡ None = both.hold.none in
    rw none refl

both_stopped : (bytes : List ℕ) (old new : InputState) (fault : KeptFault) → old ≡ input_of_bytes bytes
    → StopsBothAt old fault new → ReadsBothUpTo (input_of_bytes bytes) fault new
both_stopped bytes old new fault is stops =
    elim (subst (λ (state : InputState). StopsBothAt state fault new) is stops) [
      | inl stored ↦ absurd (none-some fault stored.0)
      | inr reads ↦ reads.2
    ]

pub kind_of_bad_captures : (bytes : List ℕ) (old new : InputState) (line bad : ℕ) → old ≡ input_of_bytes bytes
    → StopsBothAt old (Number bad) new → kinds.BadCapture bad ≡ marked_kind line (both_fault bytes)
kind_of_bad_captures bytes old new line bad is stops =
    let fault : both_fault bytes ≡ Some (Number bad) = (both_stopped bytes old new (Number bad) is stops).1 in
    rw fault refl

pub kind_of_lacking_mark : (bytes : List ℕ) (old new : InputState) (line last : ℕ) (lacks : PacketFault)
    → old ≡ input_of_bytes bytes → StopsBothAt old (Line last lacks) new
    → kinds.TooLong ≡ marked_kind line (both_fault bytes)
kind_of_lacking_mark bytes old new line last lacks is stops =
    let fault : both_fault bytes ≡ Some (Line last lacks) = (both_stopped bytes old new (Line last lacks) is stops).1 in
    rw fault refl

pub kind_of_long_captures : (bytes : List ℕ) (old new : InputState) (line : ℕ) → old ≡ input_of_bytes bytes
    → StopsBothAt old TooMuch new → kinds.TooLong ≡ marked_kind line (both_fault bytes)
kind_of_long_captures bytes old new line is stops =
    let fault : both_fault bytes ≡ Some TooMuch = (both_stopped bytes old new TooMuch is stops).1 in
    rw fault refl

pub kind_of_long_capture : (bytes : List ℕ) (old new : InputState) → old ≡ input_of_bytes bytes
    → StopsTiming old TooMuch new → kinds.TooLong ≡ text_kind bytes fronts.Halves
kind_of_long_capture bytes old new is stops =
    let stopped = subst (λ (state : InputState). StopsTiming state TooMuch new) is stops in
    let fault : fault_in bytes ≡ Some TooMuch = stopped.reads.items.0.0 in
    rw fault refl

-- a decoder text that was read, and one with an error
pub kind_of_decoders : (bytes : List ℕ) (old new : InputState) (decoders : List Saved) → old ≡ input_of_bytes bytes
    → ReadsValue decoder_text old (Ok decoders) new → kinds.Decoders ≡ text_kind bytes fronts.Decoders
kind_of_decoders bytes old new decoders is reads =
    let leads = subst (λ (state : InputState). Leads decoder_text state (done decoders) new) is reads in
    let answer : answer_in decoder_text (input_of_bytes bytes) (closed bytes) ≡ Ok decoders =
    within_limit-stops (answer_at decoder_text (input_of_bytes bytes)) (Ok decoders) leads.took
    (λ used more last goes. rw (goes.goes_on more) refl) in
    rw answer refl

pub kind_of_bad_decoders : (bytes : List ℕ) (old new : InputState) (line : ℕ) (fault : PacketFault)
    → old ≡ input_of_bytes bytes
    → ReadsValue decoder_text old (Err (Line line fault)) new
    → kinds.BadDecoders line fault ≡ text_kind bytes fronts.Decoders
kind_of_bad_decoders bytes old new line fault is reads =
    let refuses = subst (λ (state : InputState). ReadsValue decoder_text state (Err (Line line fault)) new) is reads in
    let answer : answer_in decoder_text (input_of_bytes bytes) (closed bytes) ≡ Err (Line line fault) = refuses.0.1 in
    rw answer refl

pub kind_of_many_decoders : (bytes : List ℕ) (old new : InputState) → old ≡ input_of_bytes bytes
    → ReadsValue decoder_text old (Err TooMuch) new → kinds.TooLong ≡ text_kind bytes fronts.Decoders
kind_of_many_decoders bytes old new is reads =
    let refuses = subst (λ (state : InputState). ReadsValue decoder_text state (Err TooMuch) new) is reads in
    let answer : answer_in decoder_text (input_of_bytes bytes) (closed bytes) ≡ Err TooMuch = refuses.0.1 in
    rw answer refl

-- an input of which nothing was read stores no error
pub no_fault : (bytes : List ℕ) (old : InputState) → old ≡ input_of_bytes bytes → old.fault ≡ None
no_fault bytes old is = rw is refl

-- the error of lines, of which `items` were read before it
module _ {A B : Type 0} (saying : Saying A B) (bytes : List ℕ) (items : List A) (now new : InputState)
    (gave : Gave (lines_by saying) (input_of_bytes bytes) items now) where
  pub lines_with_fault : (fault : Option KeptFault)
      → IfSome now.text (λ text. in_text (lines_by saying) now text ≡ only_fault fault)
      → fault ≡ (in_text (lines_by saying) (input_of_bytes bytes) (closed bytes)).fault
  lines_with_fault fault stops =
      sym (up_to_fault (lines_by saying) (input_of_bytes bytes) now items fault (λ said. Unit {0}) gave stops tt).0
