-- The C structure of an outcome.
use Rattle.std.specs.Prelude.{ℕ, ◌==◌, if◌then◌else◌, []}
use Rattle.dcc_wire.specs.declared.seen.Fault.TheVariants.{BadHalf, SplitBit, TooShort, TooLong, ErrorByte}
use Rattle.dcc_wire.specs.declared.seen.Seen.{Seen}
use Rattle.dcc_wire.specs.declared.seen.Seen.TheVariants.{Nothing, Packet, Refused}
use Rattle.dcc_c.specs.declared.outcome.DccOutcome.{DccOutcome}
use Rattle.dcc_c.specs.Frames.{bytes_of, frame_numbers}

-- the outcome in the C structure `o`. If the field `refusal` is 0, the outcome is a packet. If the
-- field is 1 to 5, the outcome is a refusal with the error H1 to H5. No function writes another
-- number.
abbrev pub outcome_seen : DccOutcome → Seen
outcome_seen o =
    if o.refusal == 0 then Packet (bytes_of o.frame)
    else (if o.refusal == 1 then Refused BadHalf
    else (if o.refusal == 2 then Refused SplitBit
    else (if o.refusal == 3 then Refused TooShort
    else (if o.refusal == 4 then Refused TooLong
    else (if o.refusal == 5 then Refused (ErrorByte (bytes_of o.frame))
    else Nothing)))))

-- the outcome after a call that returned the number `answer`: no outcome for 0, otherwise the
-- outcome in the C structure `o`
abbrev pub seen_at_answer : ℕ → DccOutcome → Seen
seen_at_answer answer o = if answer == 0 then Nothing else outcome_seen o

-- the C structure of an outcome at the half-bit `at`. The structure has the bytes of a packet or of
-- a refusal H5. For any other refusal, it has no bytes.
abbrev pub outcome_numbers : ℕ → Seen → DccOutcome
outcome_numbers at Nothing = record { at = at; refusal = 0; frame = frame_numbers [] }
outcome_numbers at (Packet bytes) = record { at = at; refusal = 0; frame = frame_numbers bytes }
outcome_numbers at (Refused BadHalf) = record { at = at; refusal = 1; frame = frame_numbers [] }
outcome_numbers at (Refused SplitBit) = record { at = at; refusal = 2; frame = frame_numbers [] }
outcome_numbers at (Refused TooShort) = record { at = at; refusal = 3; frame = frame_numbers [] }
outcome_numbers at (Refused TooLong) = record { at = at; refusal = 4; frame = frame_numbers [] }
outcome_numbers at (Refused (ErrorByte bytes)) = record { at = at; refusal = 5; frame = frame_numbers bytes }
