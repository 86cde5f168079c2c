-- Theorems about listings.
use Rattle.std.specs.Prelude.{◌≡◌, ◌↔◌, ℕ, Bool, false, List}
use Rattle.dcc_wire.specs.declared.seen.Seen.{Seen}
use Rattle.dcc_capture.specs.Listing.{IsListing, listing}

-- for each value of `words`, a list of outcomes has only one listing
abbrev pub OneListing : Type 0
OneListing = (words : Bool) (outcomes : List (ℕ × Seen)) (one other : List ℕ)
    → IsListing words outcomes one → IsListing words outcomes other → one ≡ other

-- `text` is a listing of `outcomes` without packet lines if and only if it equals `listing
-- outcomes`
abbrev pub ListsInHex : Type 0
ListsInHex = (outcomes : List (ℕ × Seen)) (text : List ℕ) → IsListing false outcomes text ↔ (text ≡ listing outcomes)
