-- The number of an error code P1 to P14.
use Rattle.std.specs.Prelude.{ℕ}
use Rattle.dcc_packet.specs.declared.fault.PacketFault.{PacketFault}
use Rattle.dcc_packet.specs.declared.fault.PacketFault.TheVariants.{Short, Long, Board, Output, Signal, CvNumber}
use Rattle.dcc_packet.specs.declared.fault.PacketFault.TheVariants.{BitPlace, SpeedBits, GroupBits, Word, Number}
use Rattle.dcc_packet.specs.declared.fault.PacketFault.TheVariants.{Frame, State, StateNumber}

-- the number in the error code of a packet error, 1 to 14 for P1 to P14
abbrev pub packet_fault_number : PacketFault → ℕ
packet_fault_number Short = 1
packet_fault_number Long = 2
packet_fault_number Board = 3
packet_fault_number Output = 4
packet_fault_number Signal = 5
packet_fault_number CvNumber = 6
packet_fault_number BitPlace = 7
packet_fault_number SpeedBits = 8
packet_fault_number GroupBits = 9
packet_fault_number Word = 10
packet_fault_number Number = 11
packet_fault_number Frame = 12
packet_fault_number State = 13
packet_fault_number StateNumber = 14
