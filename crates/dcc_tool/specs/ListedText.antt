-- The listing of a capture in memory.
use Rattle.std.specs.Prelude.{◌≡◌, ℕ, ◌++◌, ◌∷◌, [], false, List, None, Some, Ok}
use Rattle.std.specs.Fmt.{digits}
use Rattle.hex.specs.Hex.{encode_with}
use Rattle.dcc_wire.specs.Bodies.{number_of}
use Rattle.dcc_wire.specs.Framing.{seen, starts_below, is_start, used_up}
use Rattle.dcc_wire.specs.Framing.{ones_at_end, ones_before}
use Rattle.dcc_wire.specs.Outcomes.{outcome_of, bits_in, bytes_in, body_outcome, by_halves}
use Rattle.dcc_wire.specs.Outcomes.{ones_left}
use Rattle.dcc_wire.specs.Inner.OutcomesAt.{outcome_at, outcomes_at}
use Rattle.dcc_wire.specs.Inner.OutcomeParts.{behind_bits, by_bits}
use Rattle.dcc_io.specs.InputState.{InputState, fresh}
use Rattle.dcc_io.specs.Words.{is_gap, comments}
use Rattle.dcc_io.specs.WriterState.{WriterState}
use Rattle.dcc_capture.specs.Listing.{listing}
use Rattle.dcc_capture.specs.Shown.{Shows}
use Rattle.dcc_tool.specs.Written.{halves_said}

-- the listing of `text`, with limits of `halves` half-bits and `bytes` bytes. A proof can unfold
-- this definition and compute the listing of a given text.
unfoldable pub listed_text : ℕ → ℕ → List ℕ → List ℕ
unfolding is_gap comments seen outcomes_at outcome_at starts_below is_start used_up ones_at_end ones_before
    outcome_of bits_in behind_bits bytes_in body_outcome by_bits by_halves ones_left number_of digits encode_with
listed_text halves bytes text = listing (seen (halves_said (fresh (Some text) 0 halves bytes) (text ++ 10 ∷ [])))

-- if `show` returns Ok for a text in memory and a writer into memory, the bytes that it wrote are
-- exactly the listing of the text
abbrev pub ShowListsTheText : Type 0
ShowListsTheText = (text now : List ℕ) (halves bytes : ℕ) (old new : InputState) (before after : WriterState)
    → (old.fault ≡ None → Shows false old before (Ok tt) new after) → old ≡ fresh (Some text) 0 halves bytes
    → before.contents ≡ Some []
    → after.contents ≡ Some now → now ≡ listed_text halves bytes text
