-- Two sides, taken in step, and what a verdict on their packets says.
use Rattle.std.proofs.Common.{◌≡◌, inl, inr, ◌∙◌, ◌++◌, [], sym, ap, subst, Bool, true, false, List, Option, Some, None}
use Rattle.std.proofs.Common.{ℕ, append-nil}
use Rattle.std.specs.Prelude.{is_none}
use Rattle.std.specs.Option.{option_to_list}
use Rattle.dcc_packet.specs.declared.packet.Packet.{Packet}
use Rattle.dcc_regs.specs.declared.register.Who.{Who}
use Rattle.dcc_wire.specs.declared.framer.Framer.{Framer}
use Rattle.dcc_order.specs.declared.comparer.Comparer.{Comparer}
use Rattle.dcc_order.specs.declared.verdict.Verdict.{Verdict}
use Rattle.dcc_order.specs.declared.wants.Wants.TheVariants.{Left, Right}
use Rattle.dcc_order.specs.Comparisons.{ComparerRepresents}
use Rattle.dcc_order.specs.GivenLists.{MayFollow, with_item}
use Rattle.dcc_order.specs.Laws.{AlikeIsTheVerdict, AlikeListsLeaveTheSame}
use Rattle.dcc_order.specs.Verdicts.{IsVerdict}
use Rattle.dcc_io.specs.declared.fault.ToolFault.{ToolFault}
use Rattle.dcc_io.specs.InputState.{InputState}
use Rattle.dcc_listen.specs.declared.side.Progress.{Progress}
use Rattle.dcc_listen.specs.Compared.{Compared, OneFails}
use Rattle.dcc_listen.specs.ComparedBoth.{ComparedBoth}
use Rattle.dcc_listen.specs.Gathered.{Gathered, GatherFails}
use Rattle.dcc_listen.specs.GatheredBoth.{GatheredBoth}
use Rattle.dcc_listen.specs.Taking.{ReadsOn}
use Rattle.dcc_listen.specs.Inner.InStep.{IsGiven, TakenInStep}
use Rattle.dcc_listen.specs.Inner.Sides.{CaptureTook, HeldTook, OneStops, SideRead, TakesAll, TakesSome}

-- what a verdict on the packets of two captures says
pub compared : AlikeIsTheVerdict → AlikeListsLeaveTheSame
    → (who : Who) (left right left' right' : InputState) (verdict : Verdict) (packets others : List Packet)
    → Gathered left packets left' → Gathered right others right' → IsVerdict who packets others verdict →
    Compared who left right left' right' verdict
compared tells leave who left right left' right' verdict packets others first second is = record {
  packets = packets;
  others = others;
  first = first;
  second = second;
  is_verdict = is;
  alike_is = tells who packets others verdict is;
  alike = λ e. leave who packets others ((tells who packets others verdict is).0 e);
}

-- what a verdict on the packets of the two captures of an input says
pub compared_both : AlikeIsTheVerdict → AlikeListsLeaveTheSame
    → (who : Who) (input input' : InputState) (verdict : Verdict) (packets others : List Packet)
    → GatheredBoth input packets others input' → IsVerdict who packets others verdict
    → ComparedBoth who input input' verdict
compared_both tells leave who input input' verdict packets others both is = record {
  packets = packets;
  others = others;
  gathered = both;
  is_verdict = is;
  alike_is = tells who packets others verdict is;
  alike = λ e. leave who packets others ((tells who packets others verdict is).0 e);
}

-- a capture that was taken to its end is gathered
pub gathered : (start now : InputState) (packets : List Packet) → TakesAll (CaptureTook start now) packets
    → Gathered start packets now
gathered start now packets (progress, ended, took) =
    subst (λ e. SideRead e start now progress.pending progress.framer packets) ended took.read

reads_on : (ended : Bool) (start now : InputState) (pending : List ℕ) (framer : Framer) (packets : List Packet)
    → start.fault ≡ None → SideRead ended start now pending framer packets → ReadsOn start now
reads_on false start now pending framer packets none read =
    record { none_kept = none; fault = read.gave.items.fault; failures = read.gave.items.failures }
reads_on true start now pending framer packets none read =
    record { none_kept = none; fault = read.fault; failures = read.hold.1 }

-- no fault was met of a capture of which some was taken
pub took_some : (start now : InputState) → TakesSome (CaptureTook start now) → ReadsOn start now
took_some start now (packets, progress, took) =
    reads_on progress.ended start now progress.pending progress.framer packets took.none_kept took.read

-- why two captures were not taken to their ends
pub one_fails : (left right left' right' : InputState) (fault : ToolFault)
    → OneStops (λ f. GatherFails left f left') (CaptureTook left left') (λ f. GatherFails right f right')
    (CaptureTook right right') fault → OneFails left right fault left' right'
one_fails left right left' right' fault (inl (fails, some)) = inl (fails, inr (took_some right right' some))
one_fails left right left' right' fault (inr (inl (some, fails))) = inr (inr (took_some left left' some), fails)
one_fails left right left' right' fault (inr (inr (is, some, other))) =
    let on = took_some left left' some in
    subst (λ f. OneFails left right f left' right') (sym is)
    (inl ((on.none_kept, on.fault), inr (took_some right right' other)))

-- one item of the left side was taken and given
pub left_given : (who : Who) (Took Took' OtherTook : List Packet → Progress → Type 0) (progress next other : Progress)
    (c new : Comparer) (item : Option Packet) (s : TakenInStep who Took OtherTook progress other c) → c.wants ≡ Left
    → s.lists.left_ended ≡ false → IsGiven c item new → Took' (s.lists.left ++ option_to_list item) next
    → next.ended ≡ is_none item → TakenInStep who Took' OtherTook next other new
left_given who Took Took' OtherTook progress next other c new None s is going given took ended = record {
  lists = with_item Left None s.lists;
  stands = subst (λ w. ComparerRepresents new (with_item w None s.lists)) is (given.stands s.lists s.stands);
  who_is = given.who ∙ s.who_is;
  left = subst (λ l. Took' l next) (append-nil s.lists.left) took;
  right = s.right;
  left_is = sym ended;
  right_is = s.right_is;
}
left_given who Took Took' OtherTook progress next other c new (Some p) s is going given took ended = record {
  lists = with_item Left (Some p) s.lists;
  stands = subst (λ w. ComparerRepresents new (with_item w (Some p) s.lists)) is (given.stands s.lists s.stands);
  who_is = given.who ∙ s.who_is;
  left = took;
  right = s.right;
  left_is = going ∙ sym ended;
  right_is = s.right_is;
}

-- the same of the right side
pub right_given : (who : Who) (Took OtherTook OtherTook' : List Packet → Progress → Type 0)
    (progress other next : Progress) (c new : Comparer) (item : Option Packet)
    (s : TakenInStep who Took OtherTook progress other c) → c.wants ≡ Right → s.lists.right_ended ≡ false
    → IsGiven c item new → OtherTook' (s.lists.right ++ option_to_list item) next → next.ended ≡ is_none item
    → TakenInStep who Took OtherTook' progress next new
right_given who Took OtherTook OtherTook' progress other next c new None s is going given took ended = record {
  lists = with_item Right None s.lists;
  stands = subst (λ w. ComparerRepresents new (with_item w None s.lists)) is (given.stands s.lists s.stands);
  who_is = given.who ∙ s.who_is;
  left = s.left;
  right = subst (λ l. OtherTook' l next) (append-nil s.lists.right) took;
  left_is = s.left_is;
  right_is = sym ended;
}
right_given who Took OtherTook OtherTook' progress other next c new (Some p) s is going given took ended = record {
  lists = with_item Right (Some p) s.lists;
  stands = subst (λ w. ComparerRepresents new (with_item w (Some p) s.lists)) is (given.stands s.lists s.stands);
  who_is = given.who ∙ s.who_is;
  left = s.left;
  right = took;
  left_is = s.left_is;
  right_is = going ∙ sym ended;
}

-- held packets that were all taken
pub all_held : (start now packets : List Packet)
    → TakesAll (λ packets progress. HeldTook start now packets progress.ended) packets
    → packets ≡ start
all_held start now packets (progress, ended, took) =
    let none : now ≡ [] = subst (λ e. MayFollow e now) ended took.all in
    sym (took.whole ∙ ap (λ l. packets ++ l) none ∙ append-nil packets)

-- why a capture was not taken to its end beside held packets, which never fail
pub beside_fails : (input input' : InputState) (HeldTook : List Packet → Progress → Type 0) (fault : ToolFault)
    → OneStops (λ f. ⊥) HeldTook (λ f. GatherFails input f input') (CaptureTook input input') fault
    → GatherFails input fault input'
beside_fails input input' HeldTook fault (inl (never, some)) = absurd never
beside_fails input input' HeldTook fault (inr (inl (some, fails))) = fails
beside_fails input input' HeldTook fault (inr (inr (is, some, other))) =
    let on = took_some input input' other in
    subst (λ f. GatherFails input f input') (sym is) (on.none_kept, on.fault)
