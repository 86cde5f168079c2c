-- The active address of a locomotive decoder (NMRA S-9.2.2, RCN-211).
use Rattle.std.specs.Prelude.{ℕ, Bool, true, false, ◌&&◌, nat_le, ◌+◌, ◌-◌, ◌*◌, Option, None, Some, if◌then◌else◌}
use Rattle.std.specs.Result.{result_ok}
use Rattle.dcc_packet.specs.declared.address.Address.{Address}
use Rattle.dcc_packet.specs.declared.address.Address.TheVariants.{Broadcast, Short, Long}
use Rattle.dcc_packet.specs.Values.{long_of, short_of}
use Rattle.dcc_packet.specs.Bits.{is_one}

-- true if `cvs` select a long address: bit 5 of CV29 is one, and CV17 is the first byte of a long
-- address (192 to 231)
abbrev pub asks_for_long : (ℕ → ℕ) → Bool
asks_for_long cvs = is_one (cvs 29) 5 && nat_le 192 (cvs 17) && nat_le (cvs 17) 231

-- the long address in CV17 and CV18 if `cvs` select a long address, otherwise the short address in
-- CV1. The result is `None` if these CVs have no address of this kind.
abbrev pub active_address : (ℕ → ℕ) → Option Address
active_address cvs =
    if asks_for_long cvs then result_ok (long_of ((cvs 17 - 192) * 256 + cvs 18)) else result_ok (short_of (cvs 1))

-- true if a locomotive decoder can have this active address: any address except the broadcast
-- address, or `None`
abbrev pub is_active : Option Address → Bool
is_active None = true
is_active (Some Broadcast) = false
is_active (Some (Short own)) = true
is_active (Some (Long own)) = true
