use Rattle.std.proofs.Common.{◌≡◌, ℕ, ◌+◌, ◌≤◌, ◌++◌, ◌∷◌, [], List, Option, None, Some, Result, Ok, arith, refl, sym}
use Rattle.std.proofs.Common.{ap, ◌∙◌, subst}
use Rattle.std.proofs.Common.{length, false}
use Rattle.std.specs.Io.KnownBytes.{Appends}
use Rattle.dcc_wire.specs.Sending.{at_last_halves}
use Rattle.dcc_tool.specs.EncodedShown.{PacketLinesAreShown, TakesEncoding, halves_to_send, in_half_bits, to_send}
use Rattle.dcc_tool.specs.Encoded.{EncodesText, encoding}
use Rattle.dcc_tool.specs.InputState.{InputState, fresh}
use Rattle.dcc_tool.specs.Listing.{IsListing}
use Rattle.dcc_tool.specs.Shown.{Shows}
use Rattle.dcc_tool.specs.WriterState.{WriterState}
use Rattle.dcc_examples.specs.Listed.{IsListingOf, frames_said}
use Rattle.dcc_examples.proofs.encoded_and_listed.encoded_and_listed.Goals as goal

-- an input over these bytes in memory
abbrev over : List ℕ → InputState
over bytes = fresh (Some bytes) 0 16777216 67108864

gained : (before after : Option (List ℕ)) (text now : List ℕ) → Appends before after text → before ≡ Some [] → after
    ≡ Some now
    → text ≡ now
gained None after text now appends none told = absurd (cc none)
gained (Some had) None text now appends none told = absurd appends
gained (Some had) (Some has) text now appends none told = cc (appends, none, told)

listed : (lines encoded listing : List ℕ) (new capture' : InputState) (from to before after : WriterState)
    → PacketLinesAreShown → EncodesText in_half_bits (over lines) from (Ok tt) new to → from.contents ≡ Some []
    → to.contents ≡ Some encoded → Shows false (over encoded) before (Ok tt) capture' after → before.contents ≡ Some []
    → after.contents ≡ Some listing → IsListingOf lines listing
listed lines encoded listing new capture' from to before after shown encodes empty written shows none told =
    λ halves bytes.
    let takes : TakesEncoding in_half_bits (frames_said lines) (over encoded) =
    record { in_halves = refl; in_no_comment = refl; halves = halves; bytes = omega (arith, bytes) } in
    let lists = shown in_half_bits false (over lines) new (over encoded) capture' from to before after
    (lines ++ 10 ∷ []) encoded
    encodes refl empty written takes refl shows in
    subst (IsListing false (at_last_halves 0 (to_send in_half_bits (frames_said lines))))
    (gained before.contents after.contents lists.0 listing lists.2 none told) lists.1

pub returns : goal.returns
returns c =
    let from : WriterState =
    record { contents = Some c.new-encoded.result.inner.items; failures = c.new-encoded.result.failures } in
    let to : WriterState =
    record { contents = Some c.encode.new.writer.inner.items; failures = c.encode.new.writer.failures } in
    let before : WriterState =
    record { contents = Some c.new-listing.result.inner.items; failures = c.new-listing.result.failures } in
    let after : WriterState =
    record { contents = Some c.show.new.writer.inner.items; failures = c.show.new.writer.failures } in
    let is : c.new-input.result ≡ over c.args.lines.now =
    c.new-input.ensures ∙ rw (c.new.ensures.inner, c.new.ensures.none_failed, c.full.ensures) refl in
    let then : c.new-capture.result ≡ over c.encode.new.writer.inner.items =
    c.new-capture.ensures
    ∙ rw (c.new-3.ensures.inner, c.as_slice.ensures.value, c.new-3.ensures.none_failed, c.full-2.ensures) refl in
    listed c.args.lines.now c.encode.new.writer.inner.items c.show.new.writer.inner.items c.encode.new.input
    c.show.new.input
    from to before after c.what_is_encoded_is_shown.ensures.packet_lines
    (subst (λ (i : InputState). EncodesText in_half_bits i from (Ok tt) c.encode.new.input to) is
    (c.in_ok-encode.ensures.encodes refl (ap (λ (i : InputState). i.fault) is)))
    (ap Some (ap (λ v. v.items) c.new-encoded.ensures.inner ∙ c.new-2.ensures.items)) refl
    (subst (λ (i : InputState). Shows false i before (Ok tt) c.show.new.input after) then
    (c.in_ok-show.ensures.shows (ap (λ (i : InputState). i.fault) then)))
    (ap Some (ap (λ v. v.items) c.new-listing.ensures.inner ∙ c.new-4.ensures.items)) refl
