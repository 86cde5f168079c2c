-- More halves only add to what was seen.
use Rattle.std.proofs.Common.{◌≡◌, ℕ, List, [], ◌∷◌, ◌++◌, length, refl, sym, ap, ◌∙◌, append_assoc, append-nil}
use Rattle.dcc_wire.specs.declared.seen.Seen.{Seen}
use Rattle.dcc_wire.specs.Framing.{rest, seen, report_at, starts_below}
use Rattle.dcc_wire.specs.Half.{class_of}
use Rattle.dcc_wire.specs.Inner.Steps.{answer_to}
use Rattle.dcc_wire.specs.SeenLaws.{SeenOnlyGrows}
use Rattle.dcc_wire.proofs.FramingLemmas.{seen-push}

pub seen-grows : SeenOnlyGrows
seen-grows halves [] = ([], ap seen (append-nil halves) ∙ sym (append-nil (seen halves)))
seen-grows halves (us ∷ more) =
    let later = seen-grows (halves ++ us ∷ []) more in
    let here : List (ℕ × Seen) = report_at (length halves) (answer_to (rest halves) (class_of us)) in (
      here ++ later.0,
      ap seen (sym (append_assoc halves (us ∷ []) more)) ∙ later.1
          ∙ rw (seen-push halves us) (append_assoc (seen halves) here later.0),
    )

pub seen-none : seen [] ≡ []
unfolding seen starts_below
seen-none = refl
