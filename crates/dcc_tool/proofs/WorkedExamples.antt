-- The definitions on given values.
use Rattle.std.proofs.Common.{◌≡◌, ℕ, ◌+◌, List, [], ◌∷◌, ◌++◌, replicate, false, None, Some, Ok, codes, refl, subst}
use Rattle.std.proofs.Common.{◌∙◌, length}
use Rattle.std.specs.Fmt.{digits}
use Rattle.std.specs.Io.KnownBytes.{Appends}
use Rattle.dcc_wire.specs.declared.seen.Seen.TheVariants.{Packet}
use Rattle.dcc_wire.specs.Bodies.{body_bits, bits_of, number_of}
use Rattle.dcc_wire.specs.Framing.{seen, starts_below, is_start, used_up}
use Rattle.dcc_wire.specs.Framing.{ones_at_end, ones_before}
use Rattle.dcc_wire.specs.Outcomes.{outcome_of, bits_in, bytes_in, body_outcome, by_halves}
use Rattle.dcc_wire.specs.Outcomes.{ones_left}
use Rattle.dcc_wire.specs.Sending.{sent, sent_bits, durations_of, sent_all}
use Rattle.dcc_wire.specs.Inner.OutcomesAt.{outcome_at, outcomes_at}
use Rattle.dcc_wire.specs.Inner.OutcomeParts.{behind_bits, by_bits}
use Rattle.dcc_io.specs.InputState.{InputState, fresh}
use Rattle.dcc_io.specs.Items.{Items, in_text}
use Rattle.dcc_io.specs.Words.{is_gap, comments}
use Rattle.dcc_io.specs.WriterState.{WriterState}
use Rattle.dcc_capture.specs.Capture.{capture_in, captures}
use Rattle.dcc_capture.specs.Listing.{IsListing}
use Rattle.dcc_capture.proofs.WorkedExamples.{speed_is_listed}
use Rattle.dcc_capture.specs.Shown.{Shows, WritesListing}
use Rattle.dcc_send.specs.declared.encoding.Encode.{Encode}
use Rattle.dcc_send.specs.Encoded.{encoding}
use Rattle.dcc_tool.specs.EncodedShown.{halves_to_send, closed_encoding}

-- the idle packet, for the main track
abbrev idle : List (List ℕ)
idle = (255 ∷ 0 ∷ 255 ∷ []) ∷ []

abbrev main : Encode
main = record { hex = false; service = false; station = None }

-- a new input over what `encode` writes of it
abbrev input : InputState
input = fresh (Some (encoding main idle)) 0 1000 1000

idle_is_read : capture_in input (closed_encoding main idle) ≡ record {
  said = halves_to_send main idle;
  fault = None;
}
unfolding is_gap comments sent sent_bits durations_of sent_all body_bits bits_of digits
idle_is_read = refl

-- locomotive 3 runs forward at 28 speed steps, in runs of equal half-bits
run_text : List ℕ
run_text = codes "58*28 100*14 58*4 100*4 58*4 100*6 58*2 100*6 58*4 100*8 58*4"

abbrev run_input : InputState
run_input = fresh (Some run_text) 0 1000 1000

abbrev run_halves : List ℕ
run_halves =
    replicate 28 58 ++ replicate 14 100 ++ replicate 4 58 ++ replicate 4 100 ++ replicate 4 58 ++ replicate 6 100
    ++ replicate 2 58 ++ replicate 6 100 ++ replicate 4 58 ++ replicate 8 100 ++ replicate 4 58

runs_are_read : in_text captures run_input (run_text ++ 10 ∷ []) ≡ record { said = run_halves; fault = None }
unfolding is_gap comments run_text
runs_are_read = refl

run_is_seen : seen run_halves ≡ (83, Packet (3 ∷ 98 ∷ 97 ∷ [])) ∷ []
unfolding seen outcomes_at outcome_at starts_below is_start used_up ones_at_end ones_before outcome_of
    bits_in behind_bits bytes_in body_outcome by_bits by_halves ones_left number_of
run_is_seen = refl

run_is_written : (before after : WriterState) (out : List ℕ) → before.contents ≡ Some [] → after.contents ≡ Some out
    → WritesListing false before after run_halves → out ≡ codes "84 036261\n"
run_is_written before after out empty full lists =
    let listing : IsListing false ((83, Packet (3 ∷ 98 ∷ 97 ∷ [])) ∷ []) lists.0 =
    subst (λ s. IsListing false s lists.0) run_is_seen lists.1 in
    let added : Appends (Some []) (Some out) lists.0 =
    subst (λ k. Appends k (Some out) lists.0) empty (subst (λ k. Appends before.contents k lists.0) full lists.2) in
    added ∙ speed_is_listed lists.0 listing

-- `show` of that text writes one line
run_is_shown : (new : InputState) (before after : WriterState) (out : List ℕ) → before.contents ≡ Some []
    → after.contents ≡ Some out → Shows false run_input before (Ok tt) new after → out ≡ codes "84 036261\n"
run_is_shown new before after out empty full shows =
    let fact : List ℕ → Type 0 =
    λ halves. WritesListing false before after halves × (new.halves + length halves ≡ 1000) in
    let read : (None ≡ None) × fact run_halves =
    subst (λ (items : Items ℕ). (items.fault ≡ None) × fact items.said) runs_are_read shows.0.items.0 in
    run_is_written before after out empty full read.1.0
