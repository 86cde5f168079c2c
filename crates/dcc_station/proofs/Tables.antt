-- What the tables say of the packets that a station refreshes and of writes to CV29.
use Rattle.std.proofs.Common.{◌≡◌, ap, true, false, Some, arith}
use Rattle.dcc_packet.specs.declared.packet.Packet.{Packet}
use Rattle.dcc_packet.specs.declared.packet.Packet.TheVariants.{Loco}
use Rattle.dcc_regs.specs.declared.register.Who.{Who}
use Rattle.dcc_regs.specs.Heard.{hears, address_of}
use Rattle.dcc_regs.specs.Writes.{is_own_write}
use Rattle.dcc_regs.proofs.LawLemmas.{one_address}
use Rattle.dcc_station.specs.Commands.{is_refreshed}

-- an entry and an own write that one decoder hears have one address
pub refreshed_address : (who : Who) (p e : Packet) → is_own_write p ≡ true → hears who p ≡ true → is_refreshed e ≡ true
    → hears who e ≡ true → address_of e ≡ address_of p
unfolding is_refreshed
refreshed_address who (Loco to v) (Loco one w) own h refreshed g = ap Some (one_address who one to w v
    (λ all. grind arith) (λ all. grind arith) g h)
refreshed_address who p e own h refreshed g = absurd (cc)

pub refreshed_is_no_write : (e : Packet) → is_refreshed e ≡ true → is_own_write e ≡ false
unfolding is_refreshed
refreshed_is_no_write e h = grind arith
