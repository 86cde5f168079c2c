-- How the answers of a station grow. The search finds `answers_all` and `answers_up_to` at the returns of its loop.
use Rattle.std.proofs.Common.{◌≡◌, ◌<◌, ◌+◌, ◌-◌, arith, replicate, ℕ, List, [], ◌∷◌, ◌++◌, length, Bool, true, false}
use Rattle.std.proofs.Common.{eqb, Option, None, Some, Result, Ok, Err, IfErr, ◌↔◌, refl, sym, ap, ◌∙◌, subst}
use Rattle.std.proofs.Common.{append_assoc, IfSome, IsSomeAnd}
use Rattle.std.proofs.lemmas.List.{append-nil, replicate-append-replicate}
use Rattle.std.proofs.lemmas.Bool.{eqb-true, eqb-false}
use Rattle.dcc_packet.specs.declared.packet.Packet.{Packet}
use Rattle.dcc_packet.specs.Spelling.{spelling}
use Rattle.dcc_station.specs.Commands.{is_sendable}
use Rattle.dcc_station.specs.declared.fault.Refused.{Refused}
use Rattle.dcc_station.specs.declared.fault.Refused.TheVariants.{NotSendable, QueueFull}
use Rattle.dcc_station.specs.Sending.{Sending, with_command}
use Rattle.dcc_io.specs.declared.stream.Failed.{Failed}
use Rattle.dcc_send.specs.declared.encoding.Encode.{Encode}
use Rattle.dcc_io.specs.declared.station_line.StationLine.{StationLine}
use Rattle.dcc_io.specs.declared.fault.KeptFault.{KeptFault}
use Rattle.dcc_io.specs.declared.fault.ToolFault.TheVariants.{Write}
use Rattle.dcc_io.specs.Failures.{HasRisen}
use Rattle.dcc_io.specs.Faults.{as_tool_fault}
use Rattle.dcc_io.specs.InputState.{InputState}
use Rattle.dcc_io.specs.WriterState.{WriterState}
use Rattle.dcc_io.specs.WrittenBytes.{AppendsFront}
use Rattle.dcc_io.specs.Held.{Holds, HoldsOrFails}
use Rattle.dcc_io.specs.Items.{Gives, Gave}
use Rattle.dcc_io.specs.PacketLines.{items_in}
use Rattle.dcc_io.specs.PacketRead.{AnswersSaid}
use Rattle.dcc_io.specs.StationLines.{Asked, Command, Next, asked_by, station_words, station_lines}
use Rattle.dcc_send.specs.StationEncoded.{refusal, refusal_line, command_line, after_command, Answers, AnswersAll}
use Rattle.dcc_send.specs.StationEncoded.{WroteFront, Answered, StationText}
use Rattle.dcc_send.specs.Inner.Held.{WritesOut, HoldsAnswers, HeldFront, HoldsAnswersOrFails}
use Rattle.dcc_io.proofs.HeldLemmas.{Holds-same, Holds-wrote, Holds-append, Holds-fails, Holds-fails_with, Holds-rest}
use Rattle.dcc_io.proofs.ItemsLemmas.{Gave-none, Gave-append, in_whole}
use Rattle.dcc_send.proofs.LinesLemmas.{writes_all, writes_up_to}

AnswersAll-append : (how : Encode) (s between new : Sending) (xs ys : List Asked) (first rest : List ℕ)
    → AnswersAll how s xs first between → AnswersAll how between ys rest new
    → AnswersAll how s (xs ++ ys) (first ++ rest) new
AnswersAll-append how s between new [] ys first rest a b =
    rw a.0 (subst (λ (t : Sending). AnswersAll how t ys rest new) a.1 b)
AnswersAll-append how s between new (x ∷ xs) ys first rest a b = (
  a.0,
  a.1,
  a.2 ++ rest,
  ap (λ (bytes : List ℕ). bytes ++ rest) a.3 ∙ append_assoc a.1 a.2 rest,
  a.4,
  AnswersAll-append how a.0 between new xs ys a.2 rest a.5 b,
)

module _ {how : Encode} where
  -- nothing was asked
  pub HoldsAnswers-none : {s : Sending} {state : WriterState} {held : List ℕ}
      → HoldsAnswers how s [] s state state held held
  HoldsAnswers-none {state = state} {held = held} =
      record { bytes = []; answers = (refl, refl); holds = rw append-nil (Holds-same state held) }

  module _ {s between : Sending} {xs : List Asked} {before after then : WriterState} {held mid : List ℕ}
      (a : HoldsAnswers how s xs between before after held mid) where
    pub HoldsAnswers-append : {new : Sending} {ys : List Asked} {left : List ℕ}
        → HoldsAnswers how between ys new after then mid left
        → HoldsAnswers how s (xs ++ ys) new before then held left
    HoldsAnswers-append {new} {ys} b = record {
      bytes = a.bytes ++ b.bytes;
      answers = AnswersAll-append how s between new xs ys a.bytes b.bytes a.answers b.answers;
      holds = rw (← append_assoc held a.bytes b.bytes) (Holds-append _ _ _ _ _ _ _ a.holds b.holds);
    }

    -- a write failed at a later answer
    HeldFront-append : {ys : List Asked} → HeldFront how between ys after then mid
        → HeldFront how s (xs ++ ys) before then held
    HeldFront-append b = record {
      first = xs ++ b.first;
      later = b.later;
      whole = ap (λ (items : List Asked). xs ++ items) b.whole ∙ sym (append_assoc xs b.first b.later);
      bytes = a.bytes ++ b.bytes;
      new = b.new;
      answers = AnswersAll-append how s between b.new xs b.first a.bytes b.bytes a.answers b.answers;
      written = rw (← append_assoc held a.bytes b.bytes) (Holds-fails_with _ _ _ _ _ _ a.holds b.written);
    }

  HeldFront-more : {s : Sending} {xs : List Asked} (ys : List Asked) {before after : WriterState} {held : List ℕ}
      → HeldFront how s xs before after held → HeldFront how s (xs ++ ys) before after held
  HeldFront-more ys a = record {
    first = a.first;
    later = a.later ++ ys;
    whole = ap (λ (items : List Asked). items ++ ys) a.whole ∙ append_assoc a.first a.later ys;
    bytes = a.bytes;
    new = a.new;
    answers = a.answers;
    written = a.written;
  }

-- If a write failed and nothing was held at the start, the front of the answers to the items that were read is a front
-- of all answers.
stopped : (how : Encode) (s : Sending) {start now : InputState} (items : List Asked) {before : WriterState}
    (after : WriterState) {then : WriterState} → Gave station_lines start items now
    → HeldFront how s items before then [] → after.failures ≡ before.failures
    → HasRisen after.failures then.failures → StationText how s start before (Err Write) now then
stopped how s {start} {now} items {before} after {then} gave front same risen =
    ((go start.text now.text gave.text, gave.fault, gave.failures), rw same at risen)
  where
    go : (whole rest : Option (List ℕ))
        → IfSome whole (λ text. IsSomeAnd rest (λ more. Gives station_lines start items now text more))
        → IfSome whole (λ text. WroteFront how s before then (items_in station_words start text).said)
    go None rest gives = tt
    go (Some text) None gives = absurd gives
    go (Some text) (Some rest) gives =
        let all = HeldFront-more (items_in station_words now rest).said front in
        rw (in_whole station_lines start now items text rest gives) (record {
          first = all.first;
          later = all.later;
          whole = all.whole;
          bytes = all.bytes;
          new = all.new;
          answers = all.answers;
          written = all.written;
        })

-- so far these items were read, and what is answered to them written or held
pub record Answering (how : Encode) (s t : Sending) (start now : InputState) (held : List ℕ)
    (before after : WriterState) : Type 0 where
  pub items : List Asked
  pub gave : Gave station_lines start items now
  pub holds : HoldsAnswers how s items t before after [] held
  pub failures : after.failures ≡ before.failures

module _ {how : Encode} {s : Sending} {start : InputState} {before : WriterState} where
  pub Answering-start : start.fault ≡ None → Answering how s s start start [] before before
  Answering-start fault =
      record { items = []; gave = Gave-none station_lines start fault; holds = HoldsAnswers-none; failures = refl }

  module _ {t : Sending} {now : InputState} {held : List ℕ} {after : WriterState}
      (so_far : Answering how s t start now held before after) where
    -- some of what was held was written
    pub Answering-wrote : {left : List ℕ} {then : WriterState} → Holds after then held left
        → then.failures ≡ after.failures → Answering how s t start now left before then
    Answering-wrote wrote same = record {
      items = so_far.items;
      gave = so_far.gave;
      holds = record {
        bytes = so_far.holds.bytes;
        answers = so_far.holds.answers;
        holds = Holds-wrote _ _ _ _ _ _ so_far.holds.holds wrote;
      };
      failures = same ∙ so_far.failures;
    }

    pub Answering-line : {new : Sending} {next : InputState} {left : List ℕ} {then : WriterState} (line : StationLine)
        → AnswersSaid station_words asked_by now (Ok (Some line)) next
        → HoldsAnswers how t (asked_by line) new after then held left → then.failures ≡ after.failures
        → Answering how s new start next left before then
    Answering-line {next = next} line answer holds same =
        record {
          items = so_far.items ++ asked_by line;
          gave = Gave-append station_lines start now next so_far.items (asked_by line) so_far.gave answer.0;
          holds = HoldsAnswers-append so_far.holds holds;
          failures = same ∙ so_far.failures;
        }

    -- a write failed where answers were to be held
    pub stops_at_write : (next : InputState) {then : WriterState} (line : StationLine)
        → AnswersSaid station_words asked_by now (Ok (Some line)) next
        → HeldFront how t (asked_by line) after then held → HasRisen after.failures then.failures
        → StationText how s start before (Err Write) next then
    stops_at_write next line answer wrote risen =
        stopped how s (so_far.items ++ asked_by line) after
        (Gave-append station_lines start now next so_far.items (asked_by line) so_far.gave answer.0)
        (HeldFront-append so_far.holds wrote) so_far.failures risen

    -- a write of what was held failed
    pub stops_before_read : {then : WriterState} → AppendsFront after then held → HasRisen after.failures then.failures
        → StationText how s start before (Err Write) now then
    stops_before_read wrote risen =
        stopped how s so_far.items after so_far.gave (record {
          first = so_far.items;
          later = [];
          whole = sym (append-nil so_far.items);
          bytes = so_far.holds.bytes;
          new = t;
          answers = so_far.holds.answers;
          written = Holds-fails _ _ _ _ _ so_far.holds.holds wrote;
        }) so_far.failures risen

-- what was held was written
all_answered : (how : Encode) (s t : Sending) (start now : InputState) (held left : List ℕ)
    (before after then : WriterState)
    (so_far : Answering how s t start now held before after) → WritesOut after held left then
    → Answered how s before then so_far.items
all_answered how s t start now held left before after then so_far wrote = (
  t,
  record {
    bytes = so_far.holds.bytes;
    answers = so_far.holds.answers;
    written = Holds-rest before after then so_far.holds.bytes held so_far.holds.holds wrote.1;
  },
)

-- the input has ended, and what was held was written
pub answers_all : (how : Encode) (s t : Sending) (start now new : InputState) (held left : List ℕ)
    (before after then : WriterState) → Answering how s t start now held before after
    → AnswersSaid station_words asked_by now (Ok None) new → WritesOut after held left then
    → StationText how s start before (Ok tt) new then
answers_all how s t start now new held left before after then so_far answer wrote =
    writes_all station_words asked_by start now new so_far.items (Answered how s before then)
    (WroteFront how s before then) before then so_far.gave
    (all_answered how s t start now held left before after then so_far wrote) (wrote.2 ∙ so_far.failures) answer

-- the input has a fault, and what was held was written
pub answers_up_to : (how : Encode) (s t : Sending) (start now new : InputState) (held left : List ℕ)
    (before after then : WriterState) (fault : KeptFault) → Answering how s t start now held before after
    → AnswersSaid station_words asked_by now (Err fault) new → WritesOut after held left then
    → StationText how s start before (Err (as_tool_fault fault)) new then
answers_up_to how s t start now new held left before after then fault so_far answer wrote =
    writes_up_to station_words asked_by start now new so_far.items (Answered how s before then)
    (WroteFront how s before then) before then so_far.gave
    (all_answered how s t start now held left before after then so_far wrote) (wrote.2 ∙ so_far.failures) fault answer

-- one packet more was sent
pub HoldsAnswers-next : (how : Encode) (s between new : Sending) (n : ℕ) (before after then : WriterState)
    (held mid left : List ℕ) → HoldsAnswers how s (replicate n Next) between before after held mid
    → HoldsAnswers how between (Next ∷ []) new after then mid left
    → HoldsAnswers how s (replicate (n + 1) Next) new before then held left
HoldsAnswers-next how s between new n before after then held mid left a b =
    rw (← replicate-append-replicate n 1 Next) (HoldsAnswers-append a b)

-- a write failed within the packets to be sent
pub stops_sending : (how : Encode) (s between : Sending) (n count : ℕ) (before after then : WriterState)
    (held mid : List ℕ) → n < count
    → HoldsAnswers how s (replicate n Next) between before after held mid → after.failures ≡ before.failures
    → HeldFront how between (Next ∷ []) after then mid → HasRisen after.failures then.failures
    → HeldFront how s (replicate count Next) before then held × HasRisen before.failures then.failures
stops_sending how s between n count before after then held mid within a same b risen =
    let total : count ≡ n + 1 + (count - (n + 1)) = omega (arith, within) in
    let whole : replicate count Next ≡ (replicate n Next ++ Next ∷ []) ++ replicate (count - (n + 1)) Next =
    ap (λ (m : ℕ). replicate m Next) total ∙ sym (replicate-append-replicate (n + 1) (count - (n + 1)) Next)
    ∙ ap (λ (items : List Asked). items ++ replicate (count - (n + 1)) Next)
    (sym (replicate-append-replicate n 1 Next)) in
    (rw whole (HeldFront-more (replicate (count - (n + 1)) Next) (HeldFront-append a b)), rw same at risen)

-- one answer was held, or a write failed
pub holds_answer : (how : Encode) (s new : Sending) (item : Asked) (bytes : List ℕ) (before after : WriterState)
    (held left : List ℕ) (result : Result (Unit {0}) Failed)
    → Answers how s item bytes new → HoldsOrFails before (held ++ bytes) result left after
    → HoldsAnswersOrFails how s (item ∷ []) before held result new left after
holds_answer how s new item bytes before after held left result a holds = go result holds
  where
    one : AnswersAll how s (item ∷ []) bytes new
    one = (new, bytes, [], sym (append-nil bytes), a, (refl, refl))

    go : (result : Result (Unit {0}) Failed) → HoldsOrFails before (held ++ bytes) result left after
        → HoldsAnswersOrFails how s (item ∷ []) before held result new left after
    go (Ok done) holds = (record { bytes = bytes; answers = one; holds = holds.0 }, holds.1)
    go (Err failed) wrote = (
      record {
        first = item
            ∷ [];
        later = [];
        whole = refl;
        bytes = bytes;
        new = new;
        answers = one;
        written = wrote.0;
      },
      wrote.1,
    )

-- how a command was refused
abbrev pub refused_by : Result (Unit {0}) (Refused × Packet) → Option Refused
refused_by (Ok done) = None
refused_by (Err refused) = Some refused.0

pub refused_is : (s : Sending) (packet : Packet) (result : Result (Unit {0}) (Refused × Packet))
    → (result ≡ Err (NotSendable, packet)) ↔ (is_sendable packet ≡ false)
    → (result ≡ Err (QueueFull, packet)) ↔ ((is_sendable packet ≡ true) × (length s.waiting ≡ s.queue))
    → IfErr result (λ refused. refused.1 ≡ packet) → refused_by result ≡ refusal s packet
refused_is s packet result not_sendable full back = go (is_sendable packet) (eqb (length s.waiting) s.queue) refl refl
  where
    none : (answer : Result (Unit {0}) (Refused × Packet)) → answer ≡ result → is_sendable packet ≡ true
        → eqb (length s.waiting) s.queue ≡ false → IfErr answer (λ refused. refused.1 ≡ packet)
        → refused_by answer ≡ None
    none (Ok done) is sendable room same = refl
    none (Err (NotSendable, other)) is sendable room same =
        let refused : is_sendable packet ≡ false =
        not_sendable.0 (sym is ∙ ap (λ (p : Packet). Err (NotSendable, p)) same) in
        absurd (let clash : true ≡ false = sym sendable ∙ refused in cc)
    none (Err (QueueFull, other)) is sendable room same =
        absurd (eqb-false (length s.waiting) s.queue room
        (full.0 (sym is ∙ ap (λ (p : Packet). Err (QueueFull, p)) same)).1)

    go : (sendable some : Bool) → is_sendable packet ≡ sendable → eqb (length s.waiting) s.queue ≡ some
        → refused_by result ≡ refusal s packet
    go false some is_not is_full = rw (is_not, not_sendable.1 is_not) refl
    go true true is is_full = rw (is, is_full, full.1 (is, eqb-true (length s.waiting) s.queue is_full)) refl
    go true false is is_not = rw (is, is_not) (none result refl is is_not back)

-- a command that is accepted
pub answers_accepted : (how : Encode) (s new : Sending) (packet : Packet) (state : WriterState)
    (held : List ℕ) → None ≡ refusal s packet → new ≡ with_command s packet
    → HoldsAnswersOrFails how s (Command (spelling packet) ∷ []) state held (Ok tt) new held state
answers_accepted how s new packet state held none is =
    holds_answer how s new (Command (spelling packet)) [] state state held held (Ok tt)
    (packet, refl, ap command_line none, is ∙ ap (λ (r : Option Refused). after_command s packet r) none)
    (rw append-nil (Holds-same state held), refl)

-- a command that is refused
pub answers_refused : (how : Encode) (s new : Sending) (packet : Packet) (refused : Refused)
    (before after : WriterState) (held left : List ℕ) (result : Result (Unit {0}) Failed)
    → Some refused ≡ refusal s packet → new ≡ s
    → HoldsOrFails before (held ++ refusal_line refused) result left after
    → HoldsAnswersOrFails how s (Command (spelling packet) ∷ []) before held result new left after
answers_refused how s new packet refused before after held left result some is holds =
    holds_answer how s new (Command (spelling packet)) (refusal_line refused) before after held left result
    (packet, refl, ap command_line some, is ∙ ap (λ (r : Option Refused). after_command s packet r) some) holds
