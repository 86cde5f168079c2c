-- What a call of the program does.
use Rattle.std.proofs.Common.{◌≡◌, inl, inr, ℕ, ◌+◌, ◌<◌, ◌≤◌, zero, suc, arith, add-one, length, take, get_or}
use Rattle.std.proofs.Common.{List, [], ◌∷◌, ◌++◌, map, Option, None, Some, Result, Ok, Err, All, true, false, ◌↔◌}
use Rattle.std.proofs.Common.{refl, sym, ap, ◌∙◌, subst, IfSome}
use Rattle.std.proofs.Math.Seq.{take-suc}
use Rattle.std.proofs.lemmas.List.{map-append}
use Rattle.dcc_regs.specs.declared.register.Who.{Who}
use Rattle.dcc_regs.specs.Result.{RegisterMap}
use Rattle.dcc_io.specs.declared.fault.KeptFault.{KeptFault}
use Rattle.dcc_io.specs.declared.fault.ToolFault.{ToolFault}
use Rattle.dcc_io.specs.declared.fault.ToolFault.TheVariants as told
use Rattle.dcc_saved.specs.declared.saved.Saved.{Saved}
use Rattle.dcc_io.specs.Faults.{as_tool_fault}
use Rattle.dcc_io.specs.InputState.{InputState, ReadHasFailure}
use Rattle.dcc_io.specs.WriterState.{WriterState}
use Rattle.dcc_io.specs.declared.fault.Usage.TheVariants as usages
use Rattle.dcc_station.specs.Sending.{idle_sending}
use Rattle.dcc_send.specs.declared.encoding.Encode.{Encode}
use Rattle.dcc_send.specs.Encoded.{EncodesText}
use Rattle.dcc_send.specs.EncodeStation.{is_past_limits, has_begun}
use Rattle.dcc_send.specs.StationEncoded.{StationText}
use Rattle.dcc_saved.specs.DecoderText.{decoder_text}
use Rattle.dcc_saved.specs.PossibleLines.{is_possible}
use Rattle.dcc_saved.specs.TextRead.{ReadsValue, UsedWholeLines}
use Rattle.dcc_listen.specs.FleetRun.{Fleet, Runs}
use Rattle.dcc_tool.specs.Performs.{Streams, EncodesLines, SavesThese, RunsText, decoder_of}

-- where an answer came, no fault was kept
none_kept : {A : Type 0} (x : A) (fault : Option KeptFault) (P : Type 0)
    → IfSome fault (λ kept. (◌≡◌ {A = Result A ToolFault} (Ok x) (Err (as_tool_fault kept))) × P) → fault ≡ None
none_kept x None P kept = refl
none_kept x (Some fault) P kept = let e = kept.0 in absurd (cc)

module _ {A : Type 0} (x : A) (old left : InputState) (decoders : List Saved)
    (kept : IfSome old.fault
    (λ fault. (◌≡◌ {A = Result A ToolFault} (Ok x) (Err (as_tool_fault fault))) × (left ≡ old)))
    (reads : old.fault ≡ None → ReadsValue decoder_text old (Ok decoders) left) (lines : UsedWholeLines old left)
    (possible : All (λ decoder. is_possible decoder ≡ true) decoders)
    (writer : WriterState) where
  abbrev before : Streams
  before = record { input = old; writer = writer }

  abbrev none : old.fault ≡ None
  none = none_kept x old.fault (left ≡ old) kept

  saves : SavesThese old decoders left
  saves = record { none_kept = none; reads = reads none; lines = lines; possible = possible }

  -- there is no memory for these decoders
  pub no_memory : RunsText before (Err told.NoMemory) (record { input = left; writer = writer })
  no_memory = inr (decoders, left, saves, inl (refl, refl, refl))

  -- these decoders hear the capture that is left
  pub hear_rest : (starts ends : Fleet) (answer : Result (Unit {0}) ToolFault) (new : InputState)
      (after : WriterState) → starts ≡ map decoder_of decoders
      → (left.fault ≡ None → Runs starts left writer answer ends new after)
      → RunsText before answer (record { input = new; writer = after })
  hear_rest starts ends answer new after are runs =
      inr (
        decoders,
        left,
        saves,
        inr (
          ends,
          subst (λ (fleet : Fleet). Runs fleet left writer answer ends new after) are
              (runs (reads none).fault),
        ),
      )

-- one decoder more is boxed
pub one_more_boxed : {B : Type 0} (view : B → Who × RegisterMap) (fleet grown : List B) (boxed : B)
    (decoders : List Saved) (one : Saved) (i : ℕ) → i < length decoders → one ≡ get_or decoders i one
    → map view fleet ≡ map decoder_of (take i decoders) → grown ≡ fleet ++ boxed ∷ [] → view boxed ≡ decoder_of one
    → map view grown ≡ map decoder_of (take (i + 1) decoders)
one_more_boxed view fleet grown boxed decoders one i within is so_far grows same =
    ap (map view) grows ∙ map-append view fleet (boxed ∷ [])
    ∙ ap (λ (fleet : Fleet). fleet ++ view boxed ∷ []) so_far
    ∙ ap (λ (decoder : Who × RegisterMap). map decoder_of (take i decoders) ++ decoder ∷ []) same
    ∙ sym (map-append decoder_of (take i decoders) (one ∷ []))
    ∙ ap (λ (saved : List Saved). map decoder_of saved) (sym next)
  where
    next : take (i + 1) decoders ≡ take i decoders ++ one ∷ []
    next = rw add-one (take-suc decoders i one within ∙ ap (λ (saved : Saved). take i decoders ++ saved ∷ []) (sym is))

-- each decoder is boxed
pub all_boxed : {B : Type 0} (view : B → Who × RegisterMap) (fleet slice : List B) (decoders saved : List Saved) (i : ℕ)
    → slice ≡ fleet → decoders ≡ saved → length decoders ≤ i
    → map view fleet ≡ map decoder_of (take i decoders) → map view slice ≡ map decoder_of saved
all_boxed view fleet slice decoders saved i same_fleet same past so_far =
    ap (map view) same_fleet ∙ so_far
    ∙ ap (λ (some : List Saved). map decoder_of some) (take_all decoders i past ∙ same)
  where
    take_all : (xs : List Saved) (i : ℕ) → length xs ≤ i → take i xs ≡ xs
    take_all [] zero past = refl
    take_all [] (suc i) past = refl
    take_all (x ∷ xs) zero past = absurd (omega (arith, past))
    take_all (x ∷ xs) (suc i) past = ap (λ (ys : List Saved). x ∷ ys) (take_all xs i (omega (arith, past)))

pub same_decoder : (one other : Who) (registers registers' : RegisterMap) → one ≡ other → registers ≡ registers'
    → ◌≡◌ {A = Who × RegisterMap} (one, registers) (other, registers')
same_decoder one other registers registers' named holds =
    ap (λ (w : Who). let m : Who × RegisterMap = (w, registers) in m) named
    ∙ ap (λ (r : RegisterMap). let m : Who × RegisterMap = (other, r) in m) holds

module _ {S : Type 0} (state : S → WriterState) (how : Encode) (old new : InputState)
    (writer writer' : S) (answer : Result (Unit {0}) ToolFault) where
  abbrev at_first : Streams
  at_first = record { input = old; writer = state writer }

  abbrev at_last : Streams
  at_last = record { input = new; writer = state writer' }

  unchanged : new ≡ old → writer' ≡ writer → at_last ≡ at_first
  unchanged same same' = cc

  -- what is said of `encode` is said of a call that asks for it
  pub encodes_lines : (answer ≡ Err (told.Usage usages.BadStation)) ↔ (is_past_limits how.station ≡ true)
      → (how.station ≡ None → has_begun answer ≡ true)
      → (has_begun answer ≡ false → (new ≡ old) × (writer' ≡ writer))
      → (has_begun answer ≡ true
      → IfSome old.fault (λ fault. (answer ≡ Err (as_tool_fault fault)) × (new ≡ old) × (writer' ≡ writer)))
      → (has_begun answer ≡ true → ReadHasFailure old.fault old.failures)
      → (how.station ≡ None → old.fault ≡ None
      → EncodesText how old (state writer) answer new (state writer'))
      → (has_begun answer ≡ true → old.fault ≡ None
      → IfSome how.station
      (λ sizes. StationText how (idle_sending sizes.0 sizes.1 sizes.2) old (state writer)
      answer new (state writer')))
      → EncodesLines how at_first answer at_last
  encodes_lines past begins nothing kept cause packets station = record {
    past_limits = past;
    begins = begins;
    nothing_done = λ not_begun. let none = nothing not_begun in unchanged none.0 none.1;
    encodes = λ begun. record {
      kept = keeps old.fault (kept begun);
      cause = cause begun;
      reads = λ none. record { packets = λ alone. packets alone none; station = station begun none };
    };
  }
    where
      keeps : (fault : Option KeptFault)
          → IfSome fault (λ fault. (answer ≡ Err (as_tool_fault fault)) × (new ≡ old) × (writer' ≡ writer))
          → IfSome fault (λ fault. (answer ≡ Err (as_tool_fault fault)) × (at_last ≡ at_first))
      keeps None kept = tt
      keeps (Some fault) kept = (kept.0, unchanged kept.1 kept.2)
