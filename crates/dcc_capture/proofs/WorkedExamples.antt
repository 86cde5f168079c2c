-- The definitions on given values.
use Rattle.std.proofs.Common.{◌≡◌, ℕ, List, [], ◌∷◌, ◌++◌, false, codes, ap, ◌∙◌, append-nil}
use Rattle.std.specs.Fmt.{digits}
use Rattle.hex.specs.Hex.{encode_with}
use Rattle.dcc_wire.specs.declared.seen.Seen.TheVariants.{Packet}
use Rattle.dcc_capture.specs.Listing.{IsListing}

-- a packet whose last half is the 84th
pub speed_is_listed : (text : List ℕ) → IsListing false ((83, Packet (3 ∷ 98 ∷ 97 ∷ [])) ∷ []) text
    → text ≡ codes "84 036261\n"
unfolding digits encode_with
speed_is_listed text listing =
    listing.4 ∙ ap (λ r. listing.0 ++ r) listing.3 ∙ append-nil listing.0 ∙ listing.2.2
    ∙ ap (λ t. 56 ∷ 52 ∷ 32 ∷ (t ++ 10 ∷ [])) listing.2.1
