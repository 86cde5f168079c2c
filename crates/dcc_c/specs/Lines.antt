-- The result of parsing a packet line, as a number.
use Rattle.std.specs.Prelude.{ℕ, Result, Ok, Err}
use Rattle.dcc_packet.specs.declared.fault.PacketFault.{PacketFault}
use Rattle.dcc_packet.specs.declared.packet.Packet.{Packet}
use Rattle.dcc_packet.specs.Fault.{packet_fault_number}

-- the number of the error of a packet line: 1 to 14 for P1 to P14. If the line is a packet, the
-- number is 0.
abbrev pub line_answer : Result Packet PacketFault → ℕ
line_answer (Ok packet) = 0
line_answer (Err fault) = packet_fault_number fault
