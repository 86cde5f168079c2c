-- The frames of a question about a service packet, and the acknowledgements of a decoder.
use Rattle.std.specs.Prelude.{◌≡◌, ℕ, Bool, true, false, Some, List, [], ◌∷◌, ◌++◌, replicate}
use Rattle.dcc_service.specs.declared.packet.ServicePacket.{ServicePacket}
use Rattle.dcc_service.specs.Machine.{ServiceState, Step, reset_bytes, acted_on}
use Rattle.dcc_service.specs.Table.{service_spelling}

-- the frames of a question: three resets, and then five copies of the service packet `packet`
abbrev pub question_bytes : ServicePacket → List (List ℕ)
question_bytes packet = replicate 3 reset_bytes ++ replicate 5 (service_spelling packet)

-- a decoder in state `before` gets the frames of a list, one after the other, and goes to state
-- `after`. The list of answers has one answer for each frame, true if the decoder acknowledges the
-- frame.
unfoldable pub Steps : ServiceState → List (List ℕ) → ServiceState → List Bool → Type 0
Steps before [] after [] = after ≡ before
Steps before [] after (answer ∷ answers) = ⊥
Steps before (frame ∷ frames) after [] = ⊥
Steps before (frame ∷ frames) after (answer ∷ answers) =
    (next : ServiceState) × Step before frame next answer × Steps next frames after answers

-- the state of a decoder after a question. Before the question, its state was `before`. The decoder
-- is in service mode and has executed `packet`, which is still pending.
abbrev pub after_question : ServiceState → ServicePacket → ServiceState
after_question before packet = record { in_service = true; pending = Some packet; cvs = acted_on packet before.cvs }

-- the acknowledgements of the eight frames of a question. The acknowledgements are `false` for the
-- three resets and the first copy, and `answer` for the other four copies.
abbrev pub four_no_then : Bool → List Bool
four_no_then answer = replicate 4 false ++ replicate 4 answer
