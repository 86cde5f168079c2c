-- How the packets of the first of two captures are gathered, and those of both.
use Rattle.std.proofs.Common.{◌≡◌, ◌⊎◌, inl, inr, ℕ, ◌+◌, ◌-◌, ◌<◌, ◌≤◌, zero, suc, List, [], ◌∷◌, ◌++◌, length, take}
use Rattle.std.proofs.Common.{replicate, Bool, true, false, nat_le, cond, Option, None, Some, Ok, Err, refl, sym, ap}
use Rattle.std.proofs.Common.{◌∙◌, subst, arith, append_assoc, length-append, IfSome, IsSomeAnd}
use Rattle.std.proofs.lemmas.List.{append-nil, length-replicate}
use Rattle.dcc_wire.specs.declared.framer.Framer.{Framer}
use Rattle.dcc_wire.specs.declared.run.RunSeen.{RunSeen}
use Rattle.dcc_wire.specs.Framing.{StandsFor}
use Rattle.dcc_packet.specs.declared.packet.Packet.{Packet}
use Rattle.dcc_order.specs.Hearing.{ArePackets}
use Rattle.dcc_order.specs.Fleets.{AreShownBy}
use Rattle.dcc_io.specs.declared.word.Run.{Run}
use Rattle.dcc_io.specs.declared.fault.KeptFault.{KeptFault}
use Rattle.dcc_io.specs.declared.fault.KeptFault.TheVariants.{Number, Line, Read, TooMuch}
use Rattle.dcc_io.specs.declared.fault.ToolFault.{ToolFault}
use Rattle.dcc_io.specs.declared.fault.ToolFault.TheVariants as told
use Rattle.dcc_io.specs.Faults.{as_tool_fault}
use Rattle.dcc_io.specs.Failures.{one_more, HasRisen}
use Rattle.dcc_io.specs.InputState.{InputState, all_lines}
use Rattle.dcc_io.specs.Words.{ended_words}
use Rattle.dcc_io.specs.Items.{EndsWith, ReadsUpTo}
use Rattle.dcc_capture.specs.Capture.{captures, halves_of_words, capture_in, capture_before_failure, CaptureLinesAt}
use Rattle.dcc_listen.specs.Gathered.{Gathered, GatherFails, StopsGathering}
use Rattle.dcc_capture.specs.BothCaptures.{Both, Said, fault_alone, in_front, only_second, both_from, in_limit}
use Rattle.dcc_capture.specs.FirstRead.{LeadsIn, LeadsTo, first_so_far, first_is, FirstLinesAt, StopsBoth, AnswersFirst}
use Rattle.dcc_listen.specs.GatheredBoth.{both_in, both_before_failure, GatheredFirst, HoldBoth, GatheredBoth}
use Rattle.dcc_listen.specs.GatheredBoth.{ReadsBothUpTo, BothLinesAt, StopsBothAt, BothFail}
use Rattle.dcc_capture.proofs.ShowLemmas.{Answers}
use Rattle.dcc_listen.specs.Taking.{HoldsPackets}
use Rattle.dcc_listen.proofs.GatherLemmas.{HoldsPackets-more, no_packets_held}
use Rattle.dcc_io.specs.Counted.{TakesHalves}
use Rattle.dcc_capture.proofs.HalfLemmas.{first_halves_taken, halves_taken}
use Rattle.dcc_io.proofs.CallLemmas.{gives_up}
use Rattle.dcc_io.proofs.TookLemmas.{told_behind, LinesAt-behind}
use Rattle.dcc_io.proofs.WrittenLemmas.{HasRisen-one_more}
use Rattle.dcc_capture.proofs.BothLemmas.{Leads-start, Leads-join, in_limit_of, second_behind}

-- so far these halves of the first capture were read, the last of them on this line, and their packets are held
pub record GatheringFirst (start now : InputState) (before : ℕ) (framer : Framer) (packets : List Packet) : Type 0 where
  pub halves : List ℕ
  pub leads : LeadsTo 0 start now (first_so_far halves before now)
  pub left : now.halves + length halves ≡ start.halves
  pub holds : HoldsPackets framer packets halves

pub GatheringFirst-start : (input : InputState) (framer : Framer) → input.fault ≡ None → StandsFor framer []
    → GatheringFirst input input 0 framer []
GatheringFirst-start input framer fault stands =
    record { halves = []; leads = Leads-start 0 input fault; left = omega arith; holds = no_packets_held stands }

in_front_twice : (first second : List ℕ) (both : Both)
    → in_front first (in_front second both) ≡ in_front (first ++ second) both
in_front_twice first second both =
    ap (λ (l : List ℕ). record { first = l; second = both.second; fault = both.fault })
    (sym (append_assoc first second both.first))

-- more half-bits of the first capture were read, the last of them on line `line`
pub GatheringFirst-more : {start now new : InputState} {before : ℕ} {framer next : Framer} {packets held : List Packet}
    (line : ℕ) (more : List ℕ) (so_far : GatheringFirst start now before framer packets)
    → LeadsTo before now new (first_so_far more line new) → new.halves + length more ≡ now.halves
    → HoldsPackets next held (so_far.halves ++ more) → GatheringFirst start new line next held
GatheringFirst-more {start} {now} {new} {before} line more so_far leads taken holds =
    let left = so_far.left in
    record {
      halves = so_far.halves ++ more;
      leads = Leads-join 0 before start now new so_far.halves (first_so_far more line new)
          (first_so_far (so_far.halves ++ more) line new) so_far.leads leads
          (λ end more_bytes last. in_front_twice so_far.halves more (both_from line new end more_bytes last));
      left = simp length-append (omega (arith, taken, left));
      holds = holds;
    }

-- a run of the first capture was read, and it showed no packet or one
pub GatheringFirst-run : {start now new : InputState} {before : ℕ} {framer next : Framer} {packets : List Packet}
    (line : ℕ) (run : Run) (answer : RunSeen) (shown : List Packet)
    (so_far : GatheringFirst start now before framer packets)
    → AnswersFirst before now (Ok (Some (line, run))) new → StandsFor next (so_far.halves ++ replicate run.n run.us)
    → Answers so_far.halves run answer → AreShownBy shown answer.seen → length shown ≤ 1
    → GatheringFirst start new line next (packets ++ shown)
GatheringFirst-run line run answer shown so_far taken stands answers spelled one =
    let count = length-replicate run.n run.us in
    let some = taken.2 in
    let left = taken.1 in
    GatheringFirst-more line (replicate run.n run.us) so_far taken.0 (omega (arith, count, left))
    (HoldsPackets-more (replicate run.n run.us) shown answer.seen _ so_far.holds stands answers spelled
    (omega (arith, one, count, some)))

-- half-bits of the first capture that the buffer has were read
pub GatheringFirst-halves : {start now new : InputState} {before : ℕ} {framer next : Framer}
    {packets held : List Packet} (halves : List ℕ) (so_far : GatheringFirst start now before framer packets)
    → 0 < length halves → TakesHalves now halves new
    → HoldsPackets next held (so_far.halves ++ halves) → GatheringFirst start new new.lines next held
GatheringFirst-halves [] so_far some takes holds = absurd (omega arith)
GatheringFirst-halves {now = now} {new} {before} (us ∷ halves) so_far some takes holds =
    GatheringFirst-more new.lines (us ∷ halves) so_far
    (first_halves_taken before now new us halves so_far.leads.fault takes)
    (halves_taken now new (us ∷ halves) so_far.leads.fault takes).left holds

pub gathers_first : (start now new : InputState) (before : ℕ) (framer : Framer) (packets : List Packet)
    → start.fault ≡ None → GatheringFirst start now before framer packets → AnswersFirst before now (Ok None) new
    → GatheredFirst start packets new
gathers_first start now new before framer packets fault so_far answer = record {
  none_kept = fault;
  halves = so_far.halves;
  hold = so_far.holds.hold;
  ends = record {
    line = answer.line;
    leads = Leads-join 0 before start now new so_far.halves (first_is [] answer.line new)
        (first_is so_far.halves answer.line new) so_far.leads answer.leads (λ end more last. refl);
    behind = answer.behind;
  };
}

front_in_limit : (halves : List ℕ) (before : ℕ) (now : InputState) (text : List ℕ)
    → in_limit (first_so_far halves before now) now text ≡ in_front halves (in_limit (both_from before now) now text)
front_in_limit halves before now text = go (nat_le (length text) now.bytes)
  where
    said : ℕ → List ℕ → Option KeptFault → Both
    said end = both_from before now end

    go : (within : Bool)
        → cond within (in_front halves (said (all_lines now text + 1) text None))
        (in_front halves (said (all_lines now text + 1) (take (now.bytes - 1) text) (Some TooMuch)))
        ≡ in_front halves
        (cond within (said (all_lines now text + 1) text None)
        (said (all_lines now text + 1) (take (now.bytes - 1) text) (Some TooMuch)))
    go true = refl
    go false = refl

module _ {start now : InputState} {before : ℕ} {framer : Framer} {packets : List Packet}
    (so_far : GatheringFirst start now before framer packets) where
  -- what stops the first capture stops both
  stopped_behind : (fault : KeptFault)
      → IfSome now.text (λ text. in_limit (both_from before now) now text ≡ fault_alone fault)
      → IfSome start.text (λ text. (both_in start text).fault ≡ Some fault)
  stopped_behind fault stops = go start.text now.text so_far.leads.text stops
    where
      go : (x y : Option (List ℕ))
          → IfSome x
          (λ text. IsSomeAnd y (λ rest. LeadsIn 0 start now (first_so_far so_far.halves before now) text rest))
          → IfSome y (λ text. in_limit (both_from before now) now text ≡ fault_alone fault)
          → IfSome x (λ text. (both_in start text).fault ≡ Some fault)
      go None y p q = tt
      go (Some x) None p q = absurd p
      go (Some x) (Some y) p q =
          ap (λ (both : Both). both.fault)
          (in_limit_of 0 start now (first_so_far so_far.halves before now) x y p
          ∙ front_in_limit so_far.halves before now y ∙ ap (in_front so_far.halves) q)

  -- the lines that were used where the first capture met a fault, told from further back
  first_lines : (new : InputState) (fault : KeptFault) → FirstLinesAt before now fault new → BothLinesAt start fault new
  first_lines new (Number line) lines = LinesAt-behind so_far.leads new (Number line) lines
  first_lines new (Line line why) (at_end, all) = (
    at_end,
    told_behind so_far.leads (λ text. new.lines ≡ all_lines now text) (λ text. new.lines ≡ all_lines start text)
        (λ text rest uses same. same ∙ uses.lines) all,
  )
  first_lines new Read lines = LinesAt-behind so_far.leads new Read lines
  first_lines new TooMuch (inl lines) = inl (inl (LinesAt-behind so_far.leads new TooMuch lines))
  first_lines new TooMuch (inr over) =
      inl (inr record {
        halves = so_far.halves ++ over.halves;
        line = over.line;
        mid = over.mid;
        leads = Leads-join 0 before start now over.mid so_far.halves (first_so_far over.halves over.line over.mid)
            (first_so_far (so_far.halves ++ over.halves) over.line over.mid) so_far.leads over.leads
            (λ end more last. in_front_twice so_far.halves over.halves (both_from over.line over.mid end more last));
        next = over.next;
      })

  first_up_to : (new : InputState) (fault : KeptFault) → StopsBoth before now fault new → ReadsBothUpTo start fault new
  first_up_to new Read stops = (
    subst (λ (n : ℕ). HasRisen start.failures n) (sym (stops.0 ∙ ap one_more so_far.leads.failures))
        (HasRisen-one_more start.failures),
    stops.1,
    go start.text now.text new.text so_far.leads.text stops.2,
  )
    where
      go : (x y z : Option (List ℕ))
          → IfSome x
          (λ text. IsSomeAnd y (λ rest. LeadsIn 0 start now (first_so_far so_far.halves before now) text rest))
          → IfSome y
          (λ text. IsSomeAnd z
          (λ rest. (used : List ℕ) × (text ≡ used ++ rest)
          × ((end : ℕ) → both_from before now end used (Some Read) ≡ fault_alone Read)))
          → IfSome x
          (λ text. IsSomeAnd z
          (λ rest. (used : List ℕ) × (text ≡ used ++ rest)
          × ((both_before_failure start used).fault ≡ Some Read)))
      go None y z p q = tt
      go (Some x) None z p q = absurd p
      go (Some x) (Some y) None p q = absurd q
      go (Some x) (Some y) (Some z) p q = (
        p.used ++ q.0,
        p.whole ∙ ap (λ (rest : List ℕ). p.used ++ rest) q.1 ∙ sym (append_assoc p.used q.0 z),
        ap (λ (both : Both). both.fault) (p.is 0 q.0 (Some Read) ∙ ap (in_front so_far.halves) (q.2 0)),
      )
  first_up_to new (Number line) stops = (stops.0 ∙ so_far.leads.failures, stopped_behind (Number line) stops.1)
  first_up_to new (Line line why) stops = (stops.0 ∙ so_far.leads.failures, stopped_behind (Line line why) stops.1)
  first_up_to new TooMuch stops = (stops.0 ∙ so_far.leads.failures, stopped_behind TooMuch stops.1)

  pub first_stops : (new : InputState) (fault : KeptFault) → start.fault ≡ None
      → AnswersFirst before now (Err fault) new
      → BothFail start (as_tool_fault fault) new
  first_stops new fault none answer =
      gives_up (λ kept. StopsBothAt start kept new) _ _ fault
      (inr (none, answer.1, first_up_to new fault answer.0, first_lines new fault answer.2))

take_none : (n : ℕ) (text : List ℕ) → text ≡ [] → take n text ≡ []
take_none zero text none = refl
take_none (suc n) text none = rw none refl

front_none : (front rest text : List ℕ) → text ≡ front ++ rest → text ≡ [] → front ≡ []
front_none [] rest text whole none = refl
front_none (byte ∷ front) rest text whole none = cc

module _ (old mid : InputState) (packets : List Packet) (first : GatheredFirst old packets mid) where
  abbrev said : Said
  said = first_is first.halves first.ends.line mid

  -- both captures, told from where the second begins
  both_is : (text rest : List ℕ) → LeadsIn 0 old mid said text rest → (rest ≡ []) ⊎ (first.ends.line < mid.place.line)
      → both_in old text ≡ in_front first.halves (only_second (capture_in mid rest))
  both_is text rest p behind = in_limit_of 0 old mid said text rest p ∙ go (nat_le (length rest) mid.bytes)
    where
      go : (within : Bool)
          → cond within (said (all_lines mid rest + 1) rest None)
          (said (all_lines mid rest + 1) (take (mid.bytes - 1) rest) (Some TooMuch))
          ≡ in_front first.halves
          (only_second
          (cond within (halves_of_words mid.halves (ended_words mid.place rest) None)
          (halves_of_words mid.halves (ended_words mid.place (take (mid.bytes - 1) rest)) (Some TooMuch))))
      go true =
          ap (in_front first.halves)
          (second_behind first.ends.line mid.halves mid.place rest rest None behind (λ none. none))
      go false =
          ap (in_front first.halves)
          (second_behind first.ends.line mid.halves mid.place rest (take (mid.bytes - 1) rest) (Some TooMuch) behind
          (take_none (mid.bytes - 1) rest))

  -- a fact of the items of the second capture
  from_second : (fault : Option KeptFault) (fact : List ℕ → Type 0) (Q : Both → Type 0)
      → ((both : Both) (more : List ℕ) → both ≡ record { first = first.halves ++ []; second = more; fault = fault }
      → fact more → Q both)
      → IfSome mid.text (λ text. EndsWith fault fact (capture_in mid text))
      → IfSome old.text (λ text. Q (both_in old text))
  from_second fault fact Q each ends = go old.text mid.text first.ends.leads.text first.ends.behind ends
    where
      go : (x y : Option (List ℕ)) → IfSome x (λ text. IsSomeAnd y (λ rest. LeadsIn 0 old mid said text rest))
          → IfSome y (λ rest. (rest ≡ []) ⊎ (first.ends.line < mid.place.line))
          → IfSome y (λ text. EndsWith fault fact (capture_in mid text)) → IfSome x (λ text. Q (both_in old text))
      go None y p behind q = tt
      go (Some x) None p behind q = absurd p
      go (Some x) (Some y) p behind q = each (both_in old x) (capture_in mid y).said
          (both_is x y p behind
          ∙ ap (λ (f : Option KeptFault). record
          { first = first.halves ++ []; second = (capture_in mid y).said; fault = f }) q.0) q.1

  pub gathers_both : (new : InputState) (others : List Packet) → Gathered mid others new
      → GatheredBoth old packets others new
  gathers_both new others second = record {
    none_kept = first.none_kept;
    hold = from_second None (λ halves. ArePackets others halves) (HoldBoth packets others)
        (λ both more is fact. rw is record {
          none = refl;
          first = subst (ArePackets packets) (sym (append-nil first.halves)) first.hold;
          second = fact;
        }) second.hold.0;
    failures = second.hold.1 ∙ first.ends.leads.failures;
    at_end = second.at_end;
    lines = go old.text mid.text first.ends.leads.text second.lines;
    fault = second.fault;
  }
    where
      go : (x y : Option (List ℕ)) → IfSome x (λ text. IsSomeAnd y (λ rest. LeadsIn 0 old mid said text rest))
          → IfSome y (λ text. new.lines ≡ all_lines mid text) → IfSome x (λ text. new.lines ≡ all_lines old text)
      go None y p q = tt
      go (Some x) None p q = absurd p
      go (Some x) (Some y) p q = q ∙ p.lines

  second_told : (fault : KeptFault)
      → IfSome mid.text (λ text. EndsWith (Some fault) (λ halves. Unit {0}) (capture_in mid text))
      → IfSome old.text (λ text. (both_in old text).fault ≡ Some fault)
  second_told fault ends =
      from_second (Some fault) (λ halves. Unit {0}) (λ both. both.fault ≡ Some fault)
      (λ both more is fact. ap (λ (b : Both). b.fault) is) ends

  -- the lines that were used where the second capture met a fault
  second_lines : (new : InputState) (fault : KeptFault) → CaptureLinesAt mid fault new → BothLinesAt old fault new
  second_lines new (Number line) lines = LinesAt-behind first.ends.leads new (Number line) lines
  second_lines new (Line line why) lines = absurd lines
  second_lines new Read lines = LinesAt-behind first.ends.leads new Read lines
  second_lines new TooMuch (inl lines) = inl (inl (LinesAt-behind first.ends.leads new TooMuch lines))
  second_lines new TooMuch (inr over) =
      inr record { halves = first.halves; mid = mid; ends = first.ends; over = over }

  second_up_to : (new : InputState) (fault : KeptFault)
      → ReadsUpTo captures mid (Some fault) new (λ halves. Unit {0}) → ReadsBothUpTo old fault new
  second_up_to new Read reads = (
    subst (λ (n : ℕ). HasRisen n new.failures) first.ends.leads.failures reads.2,
    reads.1,
    go old.text mid.text new.text first.ends.leads.text first.ends.behind reads.0,
  )
    where
      go : (x y z : Option (List ℕ)) → IfSome x (λ text. IsSomeAnd y (λ rest. LeadsIn 0 old mid said text rest))
          → IfSome y (λ rest. (rest ≡ []) ⊎ (first.ends.line < mid.place.line))
          → IfSome y
          (λ text. IsSomeAnd z
          (λ rest. (used : List ℕ) × (text ≡ used ++ rest)
          × EndsWith (Some Read) (λ halves. Unit {0}) (capture_before_failure mid used)))
          → IfSome x
          (λ text. IsSomeAnd z
          (λ rest. (used : List ℕ) × (text ≡ used ++ rest)
          × ((both_before_failure old used).fault ≡ Some Read)))
      go None y z p behind q = tt
      go (Some x) None z p behind q = absurd p
      go (Some x) (Some y) None p behind q = absurd q
      go (Some x) (Some y) (Some z) p behind q = (
        p.used ++ q.0,
        p.whole ∙ ap (λ (rest : List ℕ). p.used ++ rest) q.1 ∙ sym (append_assoc p.used q.0 z),
        ap (λ (both : Both). both.fault) (p.is 0 q.0 (Some Read)
            ∙ ap (in_front first.halves)
            (second_behind first.ends.line mid.halves mid.place y q.0 (Some Read) behind (front_none q.0 z y q.1)))
            ∙ q.2.0,
      )
  second_up_to new (Number line) reads = (reads.1 ∙ first.ends.leads.failures, second_told (Number line) reads.0)
  second_up_to new (Line line why) reads = (reads.1 ∙ first.ends.leads.failures, second_told (Line line why) reads.0)
  second_up_to new TooMuch reads = (reads.1 ∙ first.ends.leads.failures, second_told TooMuch reads.0)

  stops_at : (new : InputState) (fault : KeptFault) → StopsGathering mid fault new → StopsBothAt old fault new
  stops_at new fault (inl kept) = let clash : None ≡ Some fault = sym first.ends.leads.fault ∙ kept.0 in cc
  stops_at new fault (inr (none, kept, reads, lines)) =
      inr (first.none_kept, kept, second_up_to new fault reads, second_lines new fault lines)

  pub second_fails : (new : InputState) (fault : ToolFault) → GatherFails mid fault new → BothFail old fault new
  second_fails new (told.Number line) fails = stops_at new (Number line) fails
  second_fails new (told.Line line fault) fails = stops_at new (Line line fault) fails
  second_fails new told.TooMuch fails = stops_at new TooMuch fails
  second_fails new told.Read fails = stops_at new Read fails
  second_fails new told.NoMemory fails = (first.none_kept, fails.1)
  second_fails new told.Write fails = absurd fails
  second_fails new (told.Usage usage) fails = absurd fails
