-- Theorems about the table of outcomes. Exactly one row of the table fits a list of half-bits that
-- begins with a zero. `outcome_of` returns the outcome of this row.
use Rattle.std.specs.Prelude.{◌≡◌, ◌⊎◌, ◌↔◌, ℕ, List, ◌∷◌, Some, None}
use Rattle.dcc_wire.specs.declared.half.Half.{Half}
use Rattle.dcc_wire.specs.declared.half.Half.TheVariants.{Zero}
use Rattle.dcc_wire.specs.declared.seen.Seen.{Seen}
use Rattle.dcc_wire.specs.Outcomes.{outcome_of}
use Rattle.dcc_wire.specs.OutcomeTable.{Comes, IsUnfinished}

-- let a list of half-bits begin with a zero. The first `n` half-bits fit a row of the table with
-- `outcome` if and only if `outcome_of` returns `n` and `outcome` for the list.
abbrev pub OutcomesAreRows : Type 0
OutcomesAreRows =
    (more : List Half) (n : ℕ) (outcome : Seen)
    → Comes (Zero ∷ more) n outcome ↔ (outcome_of (Zero ∷ more) ≡ Some (n, outcome))

-- a list of half-bits that begins with a zero is unfinished if and only if `outcome_of` returns
-- `None` for it
abbrev pub NoOutcomeIsUnfinished : Type 0
NoOutcomeIsUnfinished =
    (more : List Half) → IsUnfinished (Zero ∷ more) ↔ (outcome_of (Zero ∷ more) ≡ None)

-- a list of half-bits that begins with a zero fits some row of the table, or it is unfinished
abbrev pub SomeRowFits : Type 0
SomeRowFits =
    (more : List Half)
    → ((n : ℕ) × (outcome : Seen) × Comes (Zero ∷ more) n outcome) ⊎ IsUnfinished (Zero ∷ more)

-- if `halves` fit two rows of the table, both rows have the same outcome and the same number of
-- half-bits
abbrev pub OneRowFits : Type 0
OneRowFits =
    (halves : List Half) (n m : ℕ) (outcome other : Seen)
    → Comes halves n outcome → Comes halves m other → (n ≡ m) × (outcome ≡ other)

-- if `halves` fit a row of the table, they are not unfinished
abbrev pub NoRowIsUnfinished : Type 0
NoRowIsUnfinished =
    (halves : List Half) (n : ℕ) (outcome : Seen) → Comes halves n outcome → ¬ IsUnfinished halves
