-- CV writes can be told apart by what they say.
use Rattle.std.proofs.Common.{◌≡◌, ℕ, Bool, true, nat_eq, Some, ap₂}
use Rattle.std.specs.Prelude.{Option}
use Rattle.std.specs.Bool.{Decides}
use Rattle.std.specs.Cmp.{booleans_Decides}
use Rattle.std.proofs.Math.Bool.{beq}
use Rattle.std.proofs.lemmas.Bool.Decides.{Decides-eqb, Decides-like, same_from_decides}
use Rattle.dcc_packet.specs.declared.cv.BitPlace.{BitPlace}
use Rattle.dcc_packet.specs.declared.cv.CvNumber.{CvNumber}
use Rattle.dcc_packet.specs.declared.instruction.What.TheVariants.{CvWrite, CvBitWrite}
use Rattle.dcc_packet.specs.declared.packet.Packet.{Packet}
use Rattle.dcc_packet.specs.SamePacket.{same}
use Rattle.dcc_packet.proofs.Same.{same_cv, same_place}
use Rattle.dcc_packet.proofs.SameFrames.{Decides-same}
use Rattle.dcc_regs.specs.Result.{is_effective}
use Rattle.dcc_regs.specs.Writes.{is_own_write}
use Rattle.dcc_regs.specs.declared.register.Value.TheVariants.{Pending as PendingValue}

-- of two writes of one CV the bytes are told apart
pub Decides-write : (c d : CvNumber) (v w : ℕ) → c.number ≡ d.number → Decides (nat_eq v w) (CvWrite c v ≡ CvWrite d w)
Decides-write c d v w e =
    Decides-like (nat_eq v w) (λ s. ap₂ CvWrite (same_cv c d e) s) (λ s. cc) (Decides-eqb v w)

-- of two writes of one bit, what it becomes
pub Decides-bit_write : (c d : CvNumber) (p q : BitPlace) (a b : Bool) → c.number ≡ d.number → p.place ≡ q.place
    → Decides (beq a b) (CvBitWrite c p a ≡ CvBitWrite d q b)
Decides-bit_write c d p q a b e f =
    let cv : c ≡ d = same_cv c d e in
    let place : p ≡ q = same_place p q f in
    Decides-like (beq a b) (λ s. cc) (λ s. cc) (booleans_Decides a b)

-- an own write takes effect where it is told to be the pending packet
pub effective_by : (held : Option Packet) (before p : Packet) (r : Bool) → held ≡ Some before → is_own_write p ≡ true
    → Decides r (before ≡ p) → r ≡ is_effective (Some (PendingValue held)) p
effective_by held before p r e own d = rw (e, own) (same_from_decides r (same before p) d (Decides-same before p))
