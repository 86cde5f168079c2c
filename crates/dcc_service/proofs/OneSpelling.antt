-- No two service packets have one service_spelling.
use Rattle.std.proofs.Common.{◌≡◌, ℕ, ◌+◌, ◌-◌, ◌*◌, ◌/◌, ◌%◌, ◌≤◌, sym, arith}
use Rattle.dcc_packet.specs.declared.cv.CvNumber.{CvNumber}
use Rattle.dcc_packet.specs.Rows.{bit}
use Rattle.dcc_service.specs.declared.packet.ServicePacket.{ServicePacket}
use Rattle.dcc_service.specs.declared.packet.ServicePacket.TheVariants.{Write, Verify, BitWrite, BitVerify}
use Rattle.dcc_service.specs.Table.{access_bytes, service_bytes, service_spelling}
use Rattle.dcc_packet.proofs.Same.{bit_below, same_cv}
use Rattle.dcc_packet.proofs.FrameParts.{same_bytes}
use Rattle.dcc_packet.proofs.OneSpelling.{one_bit}

one_cv : (kind : ℕ) (c d : CvNumber) (x y : ℕ) → access_bytes kind c x ≡ access_bytes kind d y → (c ≡ d) × (x ≡ y)
one_cv kind c d x y e =
    let high : kind + (c.number - 1) / 256 ≡ kind + (d.number - 1) / 256 = cc in
    let low : (c.number - 1) % 256 ≡ (d.number - 1) % 256 = cc in
    (same_cv c d (omega arith), cc)

-- the kinds of access leave the two high bits of the CV's number free
apart : (kind other : ℕ) (c d : CvNumber) (x y : ℕ) → kind + 4 ≤ other → access_bytes kind c x ≡ access_bytes other d y
    → ⊥
apart kind other c d x y below e =
    let high : kind + (c.number - 1) / 256 ≡ other + (d.number - 1) / 256 = cc in
    omega arith

pub one_instruction : (p q : ServicePacket) → service_bytes p ≡ service_bytes q → p ≡ q
one_instruction (Write c x) (Write d y) e = let same = one_cv 0x7C c d x y e in cc
one_instruction (Verify c x) (Verify d y) e = let same = one_cv 0x74 c d x y e in cc
one_instruction (BitWrite c p a) (BitWrite d q b) e =
    let same = one_cv 0x78 c d (0xF0 + 8 * bit a + p.place) (0xF0 + 8 * bit b + q.place) e in
    let last = one_bit 0xF0 a b p q same.1 in
    cc
one_instruction (BitVerify c p a) (BitVerify d q b) e =
    let same = one_cv 0x78 c d (0xE0 + 8 * bit a + p.place) (0xE0 + 8 * bit b + q.place) e in
    let last = one_bit 0xE0 a b p q same.1 in
    cc
one_instruction (BitWrite c p a) (BitVerify d q b) e =
    let last : 0xF0 + 8 * bit a + p.place ≡ 0xE0 + 8 * bit b + q.place = cc in
    absurd (omega (arith, bit_below b))
one_instruction (BitVerify c p a) (BitWrite d q b) e =
    let last : 0xE0 + 8 * bit a + p.place ≡ 0xF0 + 8 * bit b + q.place = cc in
    absurd (omega (arith, bit_below a))
one_instruction (Write c x) (Verify d y) e = absurd (apart 0x74 0x7C d c y x (omega arith) (sym e))
one_instruction (Write c x) (BitWrite d q b) e = absurd (apart 0x78 0x7C d c _ x (omega arith) (sym e))
one_instruction (Write c x) (BitVerify d q b) e = absurd (apart 0x78 0x7C d c _ x (omega arith) (sym e))
one_instruction (Verify c x) (Write d y) e = absurd (apart 0x74 0x7C c d x y (omega arith) e)
one_instruction (Verify c x) (BitWrite d q b) e = absurd (apart 0x74 0x78 c d x _ (omega arith) e)
one_instruction (Verify c x) (BitVerify d q b) e = absurd (apart 0x74 0x78 c d x _ (omega arith) e)
one_instruction (BitWrite d q b) (Write c x) e = absurd (apart 0x78 0x7C d c _ x (omega arith) e)
one_instruction (BitWrite d q b) (Verify c x) e = absurd (apart 0x74 0x78 c d x _ (omega arith) (sym e))
one_instruction (BitVerify d q b) (Write c x) e = absurd (apart 0x78 0x7C d c _ x (omega arith) e)
one_instruction (BitVerify d q b) (Verify c x) e = absurd (apart 0x74 0x78 c d x _ (omega arith) (sym e))

pub one_packet : (p q : ServicePacket) → service_spelling p ≡ service_spelling q → p ≡ q
one_packet p q e = one_instruction p q (same_bytes (service_bytes p) (service_bytes q) e)
