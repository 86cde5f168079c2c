-- The listing of the packets of packet lines.
use Rattle.std.specs.Prelude.{ℕ, ◌≤◌, ◌++◌, ◌∷◌, List, [], false, Some, length}
use Rattle.dcc_wire.specs.Sending.{at_last_halves}
use Rattle.dcc_tool.specs.EncodedShown.{halves_to_send, in_half_bits, to_send}
use Rattle.dcc_tool.specs.Encoded.{encoding}
use Rattle.dcc_tool.specs.InputState.{fresh}
use Rattle.dcc_tool.specs.Items.{in_text}
use Rattle.dcc_tool.specs.Listing.{IsListing}
use Rattle.dcc_tool.specs.PacketLines.{packet_lines}

-- the frames that the packet lines `lines` mean, up to the first error
abbrev pub frames_said : List ℕ → List (List ℕ)
frames_said lines = (in_text packet_lines (fresh (Some lines) 0 16777216 67108864) (lines ++ 10 ∷ [])).said

-- the limits of `show` are 16,777,216 half-bits and 67,108,864 bytes. If the encoding of the frames
-- that `lines` mean is within these limits, `listing` has one line for each frame, at the last
-- half-bit of the frame.
abbrev pub IsListingOf : List ℕ → List ℕ → Type 0
IsListingOf lines listing = length (halves_to_send in_half_bits (frames_said lines)) ≤ 16777216
    → length (encoding in_half_bits (frames_said lines)) ≤ 67108864
    → IsListing false (at_last_halves 0 (to_send in_half_bits (frames_said lines))) listing
