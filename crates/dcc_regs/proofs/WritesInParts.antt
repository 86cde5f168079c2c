-- The bits that a packet sets are the bits that its change of a CV sets. A packet takes effect if it is an own write
-- and an equal packet is pending.
use Rattle.std.proofs.Common.{◌≡◌, ℕ, Bool, true, false, refl}
use Rattle.std.specs.Prelude.{◌&&◌, Option, Some}
use Rattle.dcc_packet.specs.declared.address.Address.{Address}
use Rattle.dcc_packet.specs.declared.address.Address.TheVariants.{Broadcast}
use Rattle.dcc_packet.specs.declared.instruction.What.{What}
use Rattle.dcc_packet.specs.declared.instruction.What.TheVariants.{CvWrite, CvBitWrite}
use Rattle.dcc_packet.specs.declared.packet.Packet.{Packet}
use Rattle.dcc_packet.specs.declared.packet.Packet.TheVariants.{Loco as ToLoco}
use Rattle.dcc_regs.specs.declared.register.Value.{Value}
use Rattle.dcc_regs.specs.declared.register.Value.TheVariants.{Pending as PendingValue}
use Rattle.dcc_regs.specs.Inner.WriteParts.{bit_by, is_pending}
use Rattle.dcc_regs.specs.Result.{is_effective}
use Rattle.dcc_regs.specs.Writes.{bit_set, change_of, is_cv_write, is_own_write}

pub set_by_change : (p : Packet) (n k : ℕ) → bit_set p n k ≡ bit_by (change_of p) n k
set_by_change (ToLoco to (CvWrite cv value)) n k = refl
set_by_change (ToLoco to (CvBitWrite cv place one)) n k = refl
set_by_change p n k = refl

-- the instruction of an own write is a CV write
pub own_is_cv_write : (to : Address) (what : What) → is_own_write (ToLoco to what) ≡ true → is_cv_write what ≡ true
own_is_cv_write Broadcast what h = cc
own_is_cv_write to (CvWrite cv value) h = refl
own_is_cv_write to (CvBitWrite cv place one) h = refl
own_is_cv_write to what h = cc

and_false : (t : Bool) → false ≡ (t && false)
and_false true = refl
and_false false = refl

pub effective_in_parts : (held : Option Value) (p : Packet)
    → is_effective held p ≡ (is_own_write p && is_pending held p)
effective_in_parts (Some (PendingValue before)) p = refl
effective_in_parts held p = and_false (is_own_write p)
