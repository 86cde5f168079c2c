-- The listing of a capture that stands in memory.
use Rattle.std.proofs.Common.{◌∙◌, ◌++◌, ◌∷◌, [], ℕ, List, Option, ap, sym}
use Rattle.std.specs.Prelude.{unwrap_or}
use Rattle.dcc_wire.specs.Framing.{seen}
use Rattle.dcc_io.specs.InputState.{InputState}
use Rattle.dcc_capture.specs.Listing.{listing}
use Rattle.dcc_tool.specs.ListedText.{listed_text, ShowListsTheText}
use Rattle.dcc_tool.specs.Written.{halves_said}
use Rattle.dcc_tool.proofs.Written.{show_writes_the_listing}

pub show_lists_the_text : ShowListsTheText
unfolding listed_text
show_lists_the_text text now halves bytes old new before after shows is empty gained =
    ap (λ (told : Option (List ℕ)). unwrap_or told [])
    (sym gained ∙ show_writes_the_listing old new before after (text ++ 10 ∷ [])
    (shows (ap (λ (i : InputState). i.fault) is))
    (ap (λ (i : InputState). i.text) is) [] empty)
    ∙ ap (λ (i : InputState). listing (seen (halves_said i (text ++ 10 ∷ [])))) is
