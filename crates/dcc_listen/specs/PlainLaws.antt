-- A theorem about listings in plain words.
use Rattle.std.specs.Prelude.{◌≡◌, ℕ, List}
use Rattle.dcc_wire.specs.declared.seen.Seen.{Seen}
use Rattle.dcc_listen.specs.PlainListing.{IsPlainListing}

-- a list of outcomes has only one listing in plain words
abbrev pub OnePlainListing : Type 0
OnePlainListing = (outcomes : List (ℕ × Seen)) (one other : List ℕ)
    → IsPlainListing outcomes one → IsPlainListing outcomes other → one ≡ other
