-- What is a listing, and that outcomes have one.
use Rattle.std.proofs.Common.{◌≡◌, ℕ, ◌+◌, ◌++◌, ◌∷◌, Bool, true, false, List, [], ◌⊎◌, inl, inr, refl, sym, ap, ◌∙◌}
use Rattle.std.proofs.Common.{append_assoc}
use Rattle.std.proofs.lemmas.List.{append-nil}
use Rattle.dcc_wire.specs.declared.seen.Seen.{Seen}
use Rattle.dcc_wire.specs.declared.seen.Seen.TheVariants.{Nothing, Packet, Refused}
use Rattle.dcc_wire.specs.declared.seen.Fault.{Fault}
use Rattle.dcc_wire.specs.declared.frame.Frame.{Frame}
use Rattle.dcc_wire.specs.Framing.{report_at}
use Rattle.dcc_packet.specs.Written.{written_line}
use Rattle.dcc_packet.proofs.OneSpelling.{one_packet}
use Rattle.dcc_capture.specs.FrameText.{IsFrameText}
use Rattle.dcc_capture.specs.Listing.{IsOutcomeText, IsLine, AreLines, IsListing, numbered_text, outcome_text, listing}
use Rattle.dcc_capture.specs.ListingLaws.{OneListing, ListsInHex}

-- the lines of items and of later ones, one behind the other
pub AreLines-append : {A : Type 0} (IsLineOf : ℕ → A → List ℕ → Type 0) (items later : List (ℕ × A))
    (text more : List ℕ) → AreLines IsLineOf items text → AreLines IsLineOf later more
    → AreLines IsLineOf (items ++ later) (text ++ more)
AreLines-append IsLineOf [] later text more first second = rw first second
AreLines-append IsLineOf (item ∷ items) later text more first second = (
  first.0,
  first.1 ++ more,
  first.2,
  AreLines-append IsLineOf items later first.1 more first.3 second,
  rw first.4 (append_assoc first.0 first.1 more),
)

-- the lines of one item are its line
pub AreLines-one : {A : Type 0} (IsLineOf : ℕ → A → List ℕ → Type 0) (place : ℕ) (item : A) (line : List ℕ)
    → IsLineOf (place + 1) item line → AreLines IsLineOf ((place, item) ∷ []) line
AreLines-one IsLineOf place item line is_line = (line, [], is_line, refl, sym (append-nil line))

-- what a half showed is listed by its line
pub reported : (IsLineOf : ℕ → Seen → List ℕ → Type 0) (place half : ℕ) (outcome : Seen) (line : List ℕ)
    → ((frame : Frame) × (outcome ≡ Packet frame)) ⊎ ((fault : Fault) × (outcome ≡ Refused fault))
    → half ≡ place + 1 → IsLineOf half outcome line → AreLines IsLineOf (report_at place outcome) line
unfolding report_at
reported IsLineOf place half Nothing line (inl shown) same is_line = let e = shown.1 in cc
reported IsLineOf place half Nothing line (inr shown) same is_line = let e = shown.1 in cc
reported IsLineOf place half seen line shown same is_line = AreLines-one IsLineOf place seen line (rw same at is_line)

one_frame_text : (words : Bool) (frame one other : List ℕ) → IsFrameText words frame one → IsFrameText words frame other
    → one ≡ other
one_frame_text false frame one other first second = first ∙ sym second
one_frame_text true frame one other first second =
    first.2 ∙ ap written_line (one_packet first.0 second.0 (first.1 ∙ sym second.1)) ∙ sym second.2

one_outcome_text : (words : Bool) (outcome : Seen) (one other : List ℕ) → IsOutcomeText words outcome one
    → IsOutcomeText words outcome other → one ≡ other
one_outcome_text words (Packet frame) one other first second = one_frame_text words frame one other first second
one_outcome_text words seen one other first second = first ∙ sym second

one_line : (words : Bool) (half : ℕ) (outcome : Seen) (one other : List ℕ) → IsLine words half outcome one
    → IsLine words half outcome other → one ≡ other
one_line words half outcome one other first second =
    first.2 ∙ ap (numbered_text half) (one_outcome_text words outcome first.0 second.0 first.1 second.1) ∙ sym second.2

pub one_listing : OneListing
one_listing words [] one other first second = first ∙ sym second
one_listing words (found ∷ more) one other first second =
    let line = one_line words (found.0 + 1) found.1 first.0 second.0 first.2 second.2 in
    let rest = one_listing words more first.1 second.1 first.3 second.3 in
    rw (first.4, line, rest) (sym second.4)

outcome_in_hex : (outcome : Seen) → IsOutcomeText false outcome (outcome_text outcome)
outcome_in_hex Nothing = refl
outcome_in_hex seen = refl

listing_in_hex : (outcomes : List (ℕ × Seen)) → IsListing false outcomes (listing outcomes)
listing_in_hex [] = refl
listing_in_hex (found ∷ more) = (
  numbered_text (found.0 + 1) (outcome_text found.1),
  listing more,
  (outcome_text found.1, outcome_in_hex found.1, refl),
  listing_in_hex more,
  refl,
)

pub lists_in_hex : ListsInHex
lists_in_hex outcomes text = (
  λ lists. one_listing false outcomes text (listing outcomes) lists (listing_in_hex outcomes),
  λ same. rw same (listing_in_hex outcomes),
)
