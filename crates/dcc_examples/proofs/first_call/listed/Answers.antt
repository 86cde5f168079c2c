use Rattle.std.proofs.Common.{◌∙◌, codes, Some, refl, ap}
use Rattle.dcc_tool.specs.ListedText.{listed_text}
use Rattle.dcc_examples.proofs.first_call.listed.Goals as goal

pub returns : goal.returns
unfolding listed_text
returns c =
    c.what_show_lists.ensures (codes "58*28 100*14 58*4 100*4 58*4 100*6 58*2 100*6 58*4 100*8 58*4") _ 16777216
    67108864
    c.new-input.result c.show.new.input
    (record { contents = Some c.new-listing.result.inner.items; failures = c.new-listing.result.failures })
    (record { contents = Some c.show.new.writer.inner.items; failures = c.show.new.writer.failures })
    c.in_ok-show.ensures.shows
    (c.new-input.ensures ∙ rw (c.new.ensures.inner, c.as_slice.ensures, c.new.ensures.none_failed, c.full.ensures) refl)
    (ap Some (ap (λ v. v.items) c.new-listing.ensures.inner ∙ c.new-2.ensures.items)) refl ∙ refl
