-- The packets that a station sends, and the packets that it refreshes.
use Rattle.std.specs.Prelude.{Bool, true, false, not}
use Rattle.dcc_packet.specs.declared.address.Address.TheVariants.{Broadcast, Short, Long}
use Rattle.dcc_packet.specs.declared.instruction.What.{What}
use Rattle.dcc_packet.specs.declared.instruction.What.TheVariants.{Reset, Speed28, Speed128, Functions, BinaryState}
use Rattle.dcc_packet.specs.declared.instruction.What.TheVariants.{CvWrite, CvVerify, CvBitWrite, CvBitVerify}
use Rattle.dcc_packet.specs.Instruction.{is_cv_access}
use Rattle.dcc_packet.specs.declared.packet.Packet.{Packet}
use Rattle.dcc_packet.specs.declared.packet.Packet.TheVariants.{Idle, Loco, Accessory, Signal, Other}

-- true if the instruction sets the speed or a function group
abbrev pub sets_speed_or_functions : What → Bool
sets_speed_or_functions Reset = false
sets_speed_or_functions (Speed28 forward bits) = true
sets_speed_or_functions (Speed128 forward bits) = true
sets_speed_or_functions (Functions bits) = true
sets_speed_or_functions (BinaryState number on) = false
sets_speed_or_functions (CvWrite cv value) = false
sets_speed_or_functions (CvVerify cv value) = false
sets_speed_or_functions (CvBitWrite cv place one) = false
sets_speed_or_functions (CvBitVerify cv place one) = false

-- true if a station refreshes the packet: it sets the speed or a function group of one locomotive
unfoldable pub is_refreshed : Packet → Bool
is_refreshed Idle = false
is_refreshed (Loco Broadcast what) = false
is_refreshed (Loco (Short to) what) = sets_speed_or_functions what
is_refreshed (Loco (Long to) what) = sets_speed_or_functions what
is_refreshed (Accessory board output on) = false
is_refreshed (Signal address aspect) = false
is_refreshed (Other frame) = false

-- true if a station sends the packet. A station sends no idle packets, no `Other` packets, and no
-- CV accesses with the broadcast address.
unfoldable pub is_sendable : Packet → Bool
is_sendable Idle = false
is_sendable (Loco Broadcast what) = not (is_cv_access what)
is_sendable (Loco (Short to) what) = true
is_sendable (Loco (Long to) what) = true
is_sendable (Accessory board output on) = true
is_sendable (Signal address aspect) = true
is_sendable (Other frame) = false
