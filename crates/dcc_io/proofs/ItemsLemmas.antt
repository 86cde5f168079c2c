-- Items of an input, read one after the other.
use Rattle.std.proofs.Common.{◌≡◌, ℕ, List, [], ◌++◌, length, nat_le, Bool, true, false, cond, Option, None}
use Rattle.std.proofs.Common.{Some, refl, sym, ap, ◌∙◌, append_assoc, IfSome}
use Rattle.std.proofs.lemmas.List.{append-nil}
use Rattle.dcc_io.specs.declared.fault.KeptFault.{KeptFault}
use Rattle.dcc_io.specs.declared.fault.KeptFault.TheVariants.{Read}
use Rattle.dcc_io.specs.ReaderState.{IsAtEnd}
use Rattle.dcc_io.specs.InputState.{InputState, all_lines, UsesAllLines}
use Rattle.dcc_io.specs.Items.{Items, Grammar, in_text, items_behind, only_fault, Gives, Gave, StopsAt}
use Rattle.dcc_io.specs.Items.{EndsWith, ReadsUpTo}
use Rattle.dcc_io.proofs.TookLemmas.{Took-start, Took-join, told_behind, fails_behind, Stops-behind, within_limit-used}
use Rattle.dcc_io.proofs.WrittenLemmas.{HasRisen-one_more}

module _ {A : Type 0} (grammar : Grammar A) where
  pub Gave-none : (input : InputState) → input.fault ≡ None → Gave grammar input [] input
  Gave-none input fault = Took-start input fault (λ more last. refl)

  pub Gave-append : (old mid new : InputState) (first second : List A) → Gave grammar old first mid
      → Gave grammar mid second new → Gave grammar old (first ++ second) new
  Gave-append old mid new first second a b =
      Took-join a b
      (λ front back say then more last.
      let said = (grammar new more last).said in
      rw (append_assoc front back more, say (back ++ more) last, then more last, append_assoc first second said) refl)

  -- what the text says, told of its rest
  pub in_whole : (old new : InputState) (items : List A) (text rest : List ℕ) → Gives grammar old items new text rest
      → in_text grammar old text ≡ items_behind items (in_text grammar new rest)
  in_whole old new items text rest gives =
      within_limit-used old new (grammar old) (λ bytes last. items_behind items (grammar new bytes last)) text rest
      gives gives.is ∙ either (nat_le (length rest) new.bytes) _ _
    where
      either : (b : Bool) (x y : Items A)
          → cond b (items_behind items x) (items_behind items y) ≡ items_behind items (cond b x y)
      either true x y = refl
      either false x y = refl

  pub up_to_fault : (start now : InputState) (said : List A) (fault : Option KeptFault) (fact : List A → Type 0)
      → Gave grammar start said now
      → IfSome now.text (λ text. in_text grammar now text ≡ only_fault fault) → fact said
      → IfSome start.text (λ text. EndsWith fault fact (in_text grammar start text))
  up_to_fault start now said fault fact gave stops holds =
      told_behind gave (λ text. in_text grammar now text ≡ only_fault fault) _ (λ text rest gives none.
      rw (in_whole start now said text rest gives, none, append-nil said) (refl, holds)) stops

  -- what was read up to a fault
  pub reads_up_to : (start now new : InputState) (fault : KeptFault) (said : List A) (fact : List A → Type 0)
      → Gave grammar start said now → StopsAt grammar now fault new → fact said
      → ReadsUpTo grammar start (Some fault) new fact
  reads_up_to start now new Read said fact gave stops holds =
      let fails = fails_behind gave _ _ new stops (λ front back say none.
      rw (say back (Some Read), none, append-nil said) (refl, holds)) in
      (fails.2, fails.1, rw fails.0 (HasRisen-one_more start.failures))
  reads_up_to start now new fault said fact gave stops holds =
      (up_to_fault start now said (Some fault) fact gave stops.1 holds, stops.0 ∙ gave.failures)

  -- the state at a fault may be told from further back, where nothing was said in between
  pub StopsAt-behind : (start now new : InputState) (fault : KeptFault) → Gave grammar start [] now
      → StopsAt grammar now fault new → StopsAt grammar start fault new
  StopsAt-behind start now new fault gave stops =
      Stops-behind gave _ _ _ _ new fault stops
      (λ front back say none. say back (Some Read) ∙ ap (items_behind []) none)
      (λ text rest gives none. in_whole start now [] text rest gives ∙ ap (items_behind []) none)

  -- where nothing is left, each line is used
  pub uses_all_lines : (start now : InputState) (said : List A) → Gave grammar start said now → IsAtEnd now.text
      → UsesAllLines start now
  uses_all_lines start now said gave at_end =
      told_behind gave (λ rest. rest ≡ []) (λ text. now.lines ≡ all_lines start text)
      (λ text rest gives end. ap (λ (xs : List ℕ). all_lines now xs) (sym end) ∙ gives.lines) at_end
