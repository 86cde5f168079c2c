-- The locomotive decoders that hear a packet, by the address of the packet. `proofs/HearsByBytes`
-- proves that this definition equals `hears`.
use Rattle.std.specs.Prelude.{ℕ, Bool, true, false, ◌==◌, ◌&&◌, ◌+◌, ◌/◌, ◌%◌, Option, None, Some}
use Rattle.std.specs.Option.{option_map_or}
use Rattle.dcc_packet.specs.Address.{same_address}
use Rattle.dcc_packet.specs.declared.address.Address.{Address}
use Rattle.dcc_packet.specs.declared.address.Address.TheVariants.{Broadcast, Short, Long}
use Rattle.dcc_packet.specs.declared.packet.Packet.{Packet}
use Rattle.dcc_regs.specs.Heard.{address_of}

-- true if a locomotive decoder with the active address `active` hears instructions to the address
-- `to`
abbrev pub is_for : Option Address → Address → Bool
is_for active Broadcast = true
is_for None (Short to) = false
is_for None (Long to) = false
is_for (Some own) (Short to) = same_address own (Short to)
is_for (Some own) (Long to) = same_address own (Long to)

-- true if a locomotive decoder with the active address `active` hears the packet `p`
abbrev pub is_heard_at : Option Address → Packet → Bool
is_heard_at active p = option_map_or (is_for active) (address_of p) false

-- true if `first` and `second` are the first bytes of a frame to the active address. The second
-- byte counts only if the address has two bytes.
abbrev pub begins_with_address : Option Address → ℕ → ℕ → Bool
begins_with_address None first second = false
begins_with_address (Some Broadcast) first second = false
begins_with_address (Some (Short own)) first second = first == own.number
begins_with_address (Some (Long own)) first second = first == 192 + own.number / 256 && second == own.number % 256
