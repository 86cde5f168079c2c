-- How the packets of a capture are gathered.
use Rattle.std.proofs.Common.{◌≡◌, ℕ, ◌≤◌, List, [], ◌∷◌, ◌++◌, length, None, Ok, Err, Bool, true, eqb, refl}
use Rattle.std.proofs.Common.{inr, sym, ap, ◌∙◌, subst, arith, append_assoc, append-nil, length-append}
use Rattle.std.proofs.lemmas.Bool.{eqb-true}
use Rattle.std.proofs.lemmas.List.{nil_from_length}
use Rattle.dcc_wire.specs.declared.framer.Framer.{Framer}
use Rattle.dcc_wire.specs.declared.seen.Seen.{Seen}
use Rattle.dcc_wire.specs.Framing.{StandsFor, report_at, seen}
use Rattle.dcc_packet.specs.declared.packet.Packet.{Packet}
use Rattle.dcc_order.specs.Hearing.{ArePackets}
use Rattle.dcc_order.specs.Fleets.{AreShownBy}
use Rattle.dcc_order.proofs.HearingLemmas.{packets_more, no_packets}
use Rattle.dcc_io.specs.declared.fault.KeptFault.{KeptFault}
use Rattle.dcc_io.specs.Faults.{as_tool_fault}
use Rattle.dcc_io.specs.Counted.{TakesHalves}
use Rattle.dcc_io.specs.InputState.{InputState}
use Rattle.dcc_capture.specs.Capture.{captures, GaveHalves, AnswersRun}
use Rattle.dcc_listen.specs.Gathered.{Gathered, GatherFails, StopsGathering}
use Rattle.dcc_listen.specs.Taking.{Gathering, HoldsPackets}
use Rattle.dcc_listen.specs.Inner.Pushing.{Pushes}
use Rattle.dcc_io.proofs.CallLemmas.{gives_up}
use Rattle.dcc_capture.proofs.CaptureLemmas.{CaptureLinesAt-behind}
use Rattle.dcc_io.proofs.ItemsLemmas.{Gave-append, up_to_fault, reads_up_to, uses_all_lines}
use Rattle.dcc_capture.proofs.LinesLemmas.{GaveHalves-none, GaveHalves-append, stops_at_run_fault}

pub no_packets_held : {framer : Framer} → StandsFor framer [] → HoldsPackets framer [] []
no_packets_held stands = record { stands = stands; hold = no_packets; few = omega arith }

-- a framer took more half-bits, which have these packets
pub HoldsPackets-more : {framer next : Framer} {packets : List Packet} {halves : List ℕ} (some : List ℕ)
    (shown : List Packet) (answer : Seen) (place : ℕ) → HoldsPackets framer packets halves
    → StandsFor next (halves ++ some) → seen (halves ++ some) ≡ seen halves ++ report_at place answer
    → AreShownBy shown answer → length shown ≤ length some
    → HoldsPackets next (packets ++ shown) (halves ++ some)
HoldsPackets-more {packets = packets} {halves = halves} some shown answer place held stands sees spelled one =
    let few = held.few in
    record {
      stands = stands;
      hold = packets_more halves (halves ++ some) answer place packets shown sees held.hold spelled;
      few = simp length-append (omega (arith, few, one));
    }

pub Gathering-start : (input : InputState) (framer : Framer) → input.fault ≡ None → StandsFor framer []
    → Gathering input input [] framer []
Gathering-start input framer fault stands =
    record { halves = []; gave = GaveHalves-none input fault; holds = no_packets_held stands }

-- half-bits were pushed, and they showed no packet or one
pub Gathering-pushed : {start now new : InputState} {pending later : List ℕ} {framer next : Framer}
    {packets : List Packet} {answer : Seen} (shown : List Packet) → Gathering start now pending framer packets
    → Pushes now pending framer answer new later next → AreShownBy shown answer → length shown ≤ 1
    → Gathering start new later next (packets ++ shown)
Gathering-pushed {start} {now} {new} {pending} {later} {answer = answer} shown so_far pushes spelled one =
    let halves = so_far.halves in
    let gave = GaveHalves-append start now new (halves ++ pending) pushes.given so_far.gave pushes.gave in
    let whole : (halves ++ pending) ++ pushes.given ≡ (halves ++ pushes.some) ++ later =
    append_assoc halves pending pushes.given ∙ ap (λ l. halves ++ l) pushes.cut
    ∙ sym (append_assoc halves pushes.some later) in
    let some = pushes.nonempty in
    record {
      halves = halves ++ pushes.some;
      gave = subst (λ (l : List ℕ). GaveHalves start l new) whole gave;
      holds = HoldsPackets-more pushes.some shown answer _ so_far.holds
          (pushes.stands halves so_far.holds.stands) (pushes.sees halves so_far.holds.stands) spelled (omega arith);
    }

pub gathers_all : (start now new : InputState) (framer : Framer) (packets : List Packet) → start.fault ≡ None
    → Gathering start now [] framer packets → AnswersRun now (Ok None) new
    → Gathered start packets new
gathers_all start now new framer packets fault so_far answer =
    let all = answer.0 in
    let gave = rw append-nil at so_far.gave in
    record {
      none_kept = fault;
      hold = (
        up_to_fault captures start now so_far.halves None (λ halves. ArePackets packets halves) gave.items
            answer.2 so_far.holds.hold,
        all.items.failures ∙ gave.items.failures,
      );
      at_end = answer.1;
      lines = uses_all_lines captures start new (so_far.halves ++ [])
          (Gave-append captures start now new so_far.halves [] gave.items all.items) answer.1;
      fault = all.items.fault;
    }

pub gather_stops : (start now new : InputState) (framer : Framer) (packets : List Packet) (fault : KeptFault)
    → start.fault ≡ None → Gathering start now [] framer packets → AnswersRun now (Err fault) new
    → GatherFails start (as_tool_fault fault) new
gather_stops start now new framer packets fault none so_far answer =
    let gave = rw append-nil at so_far.gave in
    let stops = stops_at_run_fault now new fault answer in
    gives_up (λ kept. StopsGathering start kept new) _ _ fault
    (inr (
      none,
      stops.1,
      reads_up_to captures start now new fault so_far.halves (λ halves. Unit {0}) gave.items stops.0 tt,
      CaptureLinesAt-behind start now new so_far.halves fault gave.items stops.3,
    ))

-- no half-bit is pending, and the buffer had none
pub none_read : {old mid : InputState} {pending whole list : List ℕ} {empty : Bool}
    → (given : List ℕ) × TakesHalves old given mid × (whole ≡ pending ++ given) → list ≡ whole
    → empty ≡ eqb (length list) 0 → empty ≡ true → (pending ≡ []) × (whole ≡ []) × (mid ≡ old)
none_read {old} {mid} {pending} {whole} {list} {empty} (given, took, is) same test none =
    go pending given took (sym is ∙ sym same ∙ no_items list (sym test ∙ none))
  where
    no_items : (items : List ℕ) → eqb (length items) 0 ≡ true → items ≡ []
    no_items items e = nil_from_length items (eqb-true (length items) 0 e)

    go : (first second : List ℕ) → TakesHalves old second mid → first ++ second ≡ []
        → (first ≡ []) × (whole ≡ []) × (mid ≡ old)
    go [] [] took e = (refl, sym same ∙ no_items list (sym test ∙ none), took)
    go [] (item ∷ second) took e = cc
    go (item ∷ first) second took e = cc
