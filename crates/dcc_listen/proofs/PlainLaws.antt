-- Outcomes have one listing in plain words.
use Rattle.std.proofs.Common.{◌≡◌, ℕ, ◌+◌, List, [], ◌∷◌, sym, ap, ◌∙◌}
use Rattle.dcc_wire.specs.declared.seen.Seen.{Seen}
use Rattle.dcc_wire.specs.declared.seen.Seen.TheVariants.{Packet}
use Rattle.dcc_capture.specs.Listing.{numbered_text}
use Rattle.dcc_plain.proofs.PlainLaws.{one_plain_text}
use Rattle.dcc_listen.specs.PlainListing.{IsPlainLine, IsPlainOutcome}
use Rattle.dcc_listen.specs.PlainLaws.{OnePlainListing}

one_plain_outcome : (outcome : Seen) (one other : List ℕ) → IsPlainOutcome outcome one → IsPlainOutcome outcome other
    → one ≡ other
one_plain_outcome (Packet frame) one other first second = one_plain_text frame one other first second
one_plain_outcome seen one other first second = first ∙ sym second

one_plain_line : (half : ℕ) (outcome : Seen) (one other : List ℕ) → IsPlainLine half outcome one
    → IsPlainLine half outcome other → one ≡ other
one_plain_line half outcome one other first second =
    first.2 ∙ ap (numbered_text half) (one_plain_outcome outcome first.0 second.0 first.1 second.1) ∙ sym second.2

pub one_plain_listing : OnePlainListing
one_plain_listing [] one other first second = first ∙ sym second
one_plain_listing (found ∷ more) one other first second =
    let line = one_plain_line (found.0 + 1) found.1 first.0 second.0 first.2 second.2 in
    let rest = one_plain_listing more first.1 second.1 first.3 second.3 in
    rw (first.4, line, rest) (sym second.4)
