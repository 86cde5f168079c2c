-- The result of writing the plain words of a packet, as a number.
use Rattle.std.specs.Prelude.{ℕ, List, Option, None, Some}
use Rattle.dcc_wire.specs.declared.frame.FrameFault.{FrameFault}
use Rattle.dcc_wire.specs.FaultNumbers.{frame_fault_number}
use Rattle.dcc_plain.specs.PlainText.{packet_bytes_fault}

abbrev pub packet_fault_answer : Option FrameFault → ℕ
packet_fault_answer None = 0
packet_fault_answer (Some fault) = frame_fault_number fault

-- the number of the error of the bytes of a packet: 1 for L1 and 2 for L2. If there is no error, the
-- number is 0.
abbrev pub plain_answer : List ℕ → ℕ
plain_answer bytes = packet_fault_answer (packet_bytes_fault bytes)
