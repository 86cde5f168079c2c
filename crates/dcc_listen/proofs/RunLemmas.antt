-- A fleet that hears a capture, run by run.
use Rattle.std.proofs.Common.{ℕ, List, [], ◌∷◌, ◌++◌, map, None, Ok, Err, ◌≡◌, refl, subst, ◌∙◌}
use Rattle.std.specs.List.{AllZip}
use Rattle.dcc_regs.specs.declared.register.Who.{Who}
use Rattle.dcc_regs.specs.Result.{RegisterMap}
use Rattle.dcc_order.specs.Hearing.{HasHeardHalves}
use Rattle.dcc_order.proofs.HearingLemmas.{no_halves_heard}
use Rattle.dcc_order.proofs.TrackLemmas.{AllZip-start}
use Rattle.dcc_wire.specs.Framing.{StandsFor}
use Rattle.dcc_wire.specs.declared.framer.Framer.{Framer}
use Rattle.dcc_io.specs.declared.fault.KeptFault.{KeptFault}
use Rattle.dcc_io.specs.Calls.{ReadsTo}
use Rattle.dcc_capture.specs.Capture.{IsOfCapture, CaptureLinesAt}
use Rattle.dcc_io.specs.Faults.{as_tool_fault}
use Rattle.dcc_io.specs.InputState.{InputState}
use Rattle.dcc_io.specs.Items.{Gave}
use Rattle.dcc_capture.specs.Capture.{captures, AnswersRun}
use Rattle.dcc_io.specs.WriterState.{WriterState}
use Rattle.dcc_listen.specs.FleetRun.{HaveHeard, HearsAll, Runs}
use Rattle.dcc_io.proofs.CallLemmas.{gives_up}
use Rattle.dcc_io.proofs.ItemsLemmas.{Gave-none, Gave-append, reads_up_to, up_to_fault, uses_all_lines}
use Rattle.dcc_capture.proofs.CaptureLemmas.{CaptureLinesAt-behind}
use Rattle.dcc_capture.proofs.LinesLemmas.{stops_at_run_fault}

-- these halves were taken, and the decoders, by who each is and what it holds, have heard them
pub record Hearing {C : Type 0} (view : C → Who × RegisterMap) (old : InputState) (olds : List C) (now : InputState)
    (framer : Framer) (decoders : List C) : Type 0 where
  pub halves : List ℕ
  pub gave : Gave captures old halves now
  pub stands : StandsFor framer halves
  pub heard : AllZip (λ start end. HasHeardHalves halves start.0 start.1 (view end).0 (view end).1) (map view olds)
      decoders

AllZip-views : {A B : Type 0} (R : A → B → Type 0) {C : Type 0} (view : C → B) (xs : List A) (ys : List C)
    → AllZip (λ x y. R x (view y)) xs ys → AllZip R xs (map view ys)
AllZip-views R view [] [] h = h
AllZip-views R view [] (y ∷ ys) h = h
AllZip-views R view (x ∷ xs) [] h = h
AllZip-views R view (x ∷ xs) (y ∷ ys) h = (h.0, AllZip-views R view xs ys h.1)

module _ {C : Type 0} {view : C → Who × RegisterMap} {old : InputState} {olds : List C} where
  pub Hearing-start : {framer : Framer} → old.fault ≡ None → StandsFor framer []
      → Hearing view old olds old framer olds
  Hearing-start fault stands = record {
    halves = [];
    gave = Gave-none captures old fault;
    stands = stands;
    heard =
        AllZip-start (λ (start : Who × RegisterMap) (end : C). HasHeardHalves [] start.0 start.1 (view end).0
        (view end).1) view olds (λ decoder. no_halves_heard (view decoder).0 (view decoder).1);
  }

  module _ {now : InputState} {framer : Framer} {decoders : List C}
      (before : Hearing view old olds now framer decoders) where
    pub Hearing-more : {new : InputState} {next : Framer} {heard : List C} (more : List ℕ)
        → Gave captures now more new → StandsFor next (before.halves ++ more)
        → AllZip (λ start end. HasHeardHalves (before.halves ++ more) start.0 start.1 (view end).0 (view end).1)
        (map view olds) heard
        → Hearing view old olds new next heard
    Hearing-more {new = new} more gave stands heard = record {
      halves = before.halves ++ more;
      gave = Gave-append captures old now new before.halves more before.gave gave;
      stands = stands;
      heard = heard;
    }

    have_heard : HaveHeard (map view olds) (map view decoders) before.halves
    have_heard =
        AllZip-views (λ start end. HasHeardHalves before.halves start.0 start.1 end.0 end.1) view (map view olds)
        decoders before.heard

    -- a fault ends the capture
    pub hears_up_to : (mid new : InputState) (state : WriterState) (fault : KeptFault) → mid ≡ now
        → AnswersRun mid (Err fault) new
        → Runs (map view olds) old state (Err (as_tool_fault fault)) (map view decoders) new state
    hears_up_to mid new state fault same answer =
        let stops = stops_at_run_fault now new fault
        (subst (λ (at : InputState). AnswersRun at (Err fault) new) same answer) in
        let heard : List ℕ → Type 0 = HaveHeard (map view olds) (map view decoders) in
        gives_up (λ kept. (IsOfCapture kept × ReadsTo captures old kept new heard × CaptureLinesAt old kept new
        × (state ≡ state)) × (state.failures ≡ state.failures)) _ _ fault (
          (
            stops.2,
            record {
              kept = stops.1;
              items = reads_up_to captures old now new fault before.halves heard before.gave stops.0 have_heard;
            },
            CaptureLinesAt-behind old now new before.halves fault before.gave stops.3,
            refl,
          ),
          refl,
        )

    -- the capture ends
    pub hears_all : {new : InputState} → AnswersRun now (Ok None) new
        → HearsAll (map view olds) old (map view decoders) new
    hears_all {new = new} answer =
        let last = answer.0.items in
        record {
          items = (
            up_to_fault captures old now before.halves None (HaveHeard (map view olds) (map view decoders))
                before.gave answer.2 have_heard,
            last.failures ∙ before.gave.failures,
          );
          at_end = answer.1;
          lines = uses_all_lines captures old new (before.halves ++ [])
              (Gave-append captures old now new before.halves [] before.gave last) answer.1;
          fault = last.fault;
        }
