-- The items of the text of an input before its first error.
use Rattle.std.specs.Prelude.{◌≡◌, ℕ, ◌++◌, List, [], Option, Some, IfSome}
use Rattle.dcc_io.specs.declared.fault.KeptFault.{KeptFault}
use Rattle.dcc_io.specs.declared.fault.KeptFault.TheVariants as kept
use Rattle.dcc_io.specs.Failures.{HasRisen}
use Rattle.dcc_io.specs.InputState.{InputState}
use Rattle.dcc_io.specs.Took.{Uses, Took, within_limit, StandsBehind, Stops}

-- the items of a text before its first error, and this error. If the text has no error, `fault` is
-- `None`.
pub record Items (A : Type 0) : Type 0 where
  pub said : List A
  pub fault : Option KeptFault

abbrev pub only_fault : {A : Type 0} → Option KeptFault → Items A
only_fault fault = record { said = []; fault = fault }

-- the items of the list `front`, followed by `items`
abbrev pub items_behind : {A : Type 0} → List A → Items A → Items A
items_behind front items = record { said = front ++ items.said; fault = items.fault }

-- a grammar: a function that gives the items of a list of bytes in an input. Its last argument is
-- the error after the bytes, or `None`.
abbrev pub Grammar : Type 0 → Type 0
Grammar A = InputState → List ℕ → Option KeptFault → Items A

-- the items that `grammar` gives for an `input` with the text `text`
abbrev pub in_text : {A : Type 0} → Grammar A → InputState → List ℕ → Items A
in_text grammar input text = within_limit (grammar input) input text

-- the items that `grammar` gives for an `input` whose reader fails after the bytes `used`
abbrev pub before_failure : {A : Type 0} → Grammar A → InputState → List ℕ → Items A
before_failure grammar input used = grammar input used (Some kept.Read)

-- an input that reads the bytes `used` in state `old` goes to state `new`. Let any bytes `more`
-- follow `used`. The items of `used` and `more` in state `old` are `items`, and then the items of
-- `more` in state `new`.
abbrev pub PrefixParsesTo : {A : Type 0} → Grammar A → InputState → List A → InputState → List ℕ → Type 0
PrefixParsesTo grammar old items new used = (more : List ℕ) (last : Option KeptFault)
    → grammar old (used ++ more) last ≡ items_behind items (grammar new more last)

-- the input has read the bytes of `text` before `rest`. By `grammar`, these bytes have the items
-- `items`.
abbrev pub Gives : {A : Type 0} → Grammar A → InputState → List A → InputState → List ℕ → List ℕ → Type 0
Gives grammar old items new text rest = Uses (PrefixParsesTo grammar old items new) old new text rest

-- between the states `old` and `new`, the input read bytes with the items `items` without an error
abbrev pub Gave : {A : Type 0} → Grammar A → InputState → List A → InputState → Type 0
Gave grammar old items new = Took (PrefixParsesTo grammar old items new) old new

-- the input `old` has no item before the error `fault`
abbrev pub StopsAt : {A : Type 0} → Grammar A → InputState → KeptFault → InputState → Type 0
StopsAt grammar old fault new =
    Stops (λ used. before_failure grammar old used ≡ only_fault (Some kept.Read))
    (λ text. in_text grammar old text ≡ only_fault (Some fault)) old fault new

-- `fact` holds for the items before the error `fault`. If `fault` is `None`, there is no error, and
-- `fact` holds for all items.
abbrev pub EndsWith : {A : Type 0} → Option KeptFault → (List A → Type 0) → Items A → Type 0
EndsWith fault fact items = (items.fault ≡ fault) × fact items.said

-- the input was read up to the error `fault`, or to its end if `fault` is `None`. The property
-- `fact` holds for the items before the error. If a read failed, these are the items of the bytes
-- before this read.
abbrev pub ReadsUpTo : {A : Type 0} → Grammar A → InputState → Option KeptFault → InputState → (List A → Type 0)
    → Type 0
ReadsUpTo grammar old (Some kept.Read) new fact =
    StandsBehind (λ used. EndsWith (Some kept.Read) fact (before_failure grammar old used)) old new × (new.ahead ≡ [])
    × HasRisen old.failures new.failures
ReadsUpTo grammar old fault new fact =
    IfSome old.text (λ text. EndsWith fault fact (in_text grammar old text)) × (new.failures ≡ old.failures)
