-- No two packets have one spelling.
use Rattle.std.proofs.Common.{◌≡◌, ℕ, ◌+◌, ◌-◌, ◌*◌, ◌/◌, ◌%◌, ◌<◌, ◌≤◌, Bool, List, [], ◌∷◌, length, ap, refl, sym}
use Rattle.std.proofs.Common.{arith, inl, inr, ◌++◌}
use Rattle.dcc_packet.specs.declared.address.Address.{Address}
use Rattle.dcc_packet.specs.declared.address.Address.TheVariants.{Broadcast, Short, Long}
use Rattle.dcc_packet.specs.declared.cv.CvNumber.{CvNumber}
use Rattle.dcc_packet.specs.declared.cv.BitPlace.{BitPlace}
use Rattle.dcc_packet.specs.declared.functions.Group.{Group}
use Rattle.dcc_packet.specs.declared.functions.Group.TheVariants.{F0, F5, F9}
use Rattle.dcc_packet.specs.declared.instruction.What.{What}
use Rattle.dcc_packet.specs.declared.instruction.What.TheVariants.{Reset, Speed28, Speed128, Functions, BinaryState}
use Rattle.dcc_packet.specs.declared.instruction.What.TheVariants.{CvWrite, CvVerify, CvBitWrite, CvBitVerify}
use Rattle.dcc_packet.specs.Group.{group_max}
use Rattle.dcc_packet.specs.Rows.{bit, function_bytes, cv_bytes, instruction_bytes, address_bytes}
use Rattle.dcc_packet.specs.Rows.{accessory_bytes, signal_bytes}
use Rattle.dcc_packet.specs.declared.packet.Packet.{Packet}
use Rattle.dcc_packet.specs.declared.packet.Packet.TheVariants.{Idle, Loco, Accessory, Signal, Other}
use Rattle.dcc_packet.specs.Spelling.{spelling}
use Rattle.dcc_packet.proofs.FrameParts.{same_bytes}
use Rattle.dcc_packet.proofs.Same.{bit_below, same_bit, same_short, same_long, same_board, same_output, same_signal}
use Rattle.dcc_packet.proofs.Same.{same_cv, same_place, same_speed28, same_speed128, same_functions, same_state}
use Rattle.dcc_packet.proofs.Same.{same_other}

one_group : (g k : Group) (a b : ℕ) → a ≤ group_max g → b ≤ group_max k → function_bytes g a ≡ function_bytes k b
    → (g ≡ k) × (a ≡ b)
one_group g k a b fits_a fits_b e = grind arith

one_cv : (kind : ℕ) (c d : CvNumber) (x y : ℕ) → cv_bytes kind c.number x ≡ cv_bytes kind d.number y → (c ≡ d) × (x ≡ y)
one_cv kind c d x y e =
    let high : kind + (c.number - 1) / 256 ≡ kind + (d.number - 1) / 256 = cc in
    let low : (c.number - 1) % 256 ≡ (d.number - 1) % 256 = cc in
    (same_cv c d (omega arith), cc)

pub one_bit : (kind : ℕ) (a b : Bool) (p q : BitPlace) → kind + 8 * bit a + p.place ≡ kind + 8 * bit b + q.place
    → (a ≡ b) × (p ≡ q)
one_bit kind a b p q e =
    let below_a = bit_below a in
    let below_b = bit_below b in
    (same_bit a b (omega arith), same_place p q (omega arith))

abbrev head : List ℕ → ℕ
head [] = 0
head (x ∷ xs) = x

-- the first bytes of an instruction
abbrev from : What → ℕ
from Reset = 0
from (Speed28 f b) = 64
from (Speed128 f b) = 63
from (Functions b) = 128
from (BinaryState n b) = 221
from (CvWrite c x) = 236
from (CvVerify c x) = 228
from (CvBitWrite c p b) = 232
from (CvBitVerify c p b) = 232

abbrev to : What → ℕ
to Reset = 1
to (Speed28 f b) = 128
to (Speed128 f b) = 64
to (Functions b) = 224
to (BinaryState n b) = 222
to (CvWrite c x) = 240
to (CvVerify c x) = 232
to (CvBitWrite c p b) = 236
to (CvBitVerify c p b) = 236

leads_group : (g : Group) (b : ℕ) → b ≤ group_max g
    → (128 ≤ head (function_bytes g b)) × (head (function_bytes g b) < 224)
leads_group F0 b h = (omega arith, omega arith)
leads_group F5 b h = (omega arith, omega arith)
leads_group F9 b h = (omega arith, omega arith)
leads_group g b h = (omega arith, omega arith)

-- 221 is the byte of binary states, and of no group
no_group_leads_states : (g : Group) (b : ℕ) → b ≤ group_max g → ¬ (head (function_bytes g b) ≡ 221)
no_group_leads_states F0 b h e = absurd (omega arith)
no_group_leads_states F5 b h e = absurd (omega arith)
no_group_leads_states F9 b h e = absurd (omega arith)
no_group_leads_states g b h e = absurd (grind arith)

leads : (w : What) → (from w ≤ head (instruction_bytes w)) × (head (instruction_bytes w) < to w)
leads (Functions b) = leads_group b.group b.bits b.in_range
leads (Speed28 f b) = (omega arith, omega (arith, bit_below f))
leads (BinaryState n b) = (omega arith, omega arith)
leads Reset = (omega arith, omega arith)
leads (Speed128 f b) = (omega arith, omega arith)
leads (CvWrite c x) = (omega arith, omega arith)
leads (CvVerify c x) = (omega arith, omega arith)
leads (CvBitWrite c p b) = (omega arith, omega arith)
leads (CvBitVerify c p b) = (omega arith, omega arith)

one_what : (w v : What) → instruction_bytes w ≡ instruction_bytes v → w ≡ v
one_what Reset Reset e = refl
one_what (Speed28 f b) (Speed28 g c) e =
    let byte : 64 + 32 * bit f + 16 * (b.bits % 2) + b.bits / 2 ≡ 64 + 32 * bit g + 16 * (c.bits % 2) + c.bits / 2 =
    cc in
    let below_f = bit_below f in
    let below_g = bit_below g in
    let forward : f ≡ g = same_bit f g (omega arith) in
    let bits : b ≡ c = same_speed28 b c (omega arith) in
    cc
one_what (Speed128 f b) (Speed128 g c) e =
    let byte : 128 * bit f + b.bits ≡ 128 * bit g + c.bits = cc in
    let below_f = bit_below f in
    let below_g = bit_below g in
    let forward : f ≡ g = same_bit f g (omega arith) in
    let bits : b ≡ c = same_speed128 b c (omega arith) in
    cc
one_what (Functions a) (Functions b) e =
    let same = one_group a.group b.group a.bits b.bits a.in_range b.in_range e in
    ap Functions (same_functions a b same.0 same.1)
one_what (BinaryState n a) (BinaryState m b) e =
    let byte : 128 * bit a + n.number ≡ 128 * bit b + m.number = cc in
    let below_a = bit_below a in
    let below_b = bit_below b in
    let on : a ≡ b = same_bit a b (omega arith) in
    let number : n ≡ m = same_state n m (omega arith) in
    cc
one_what (Functions f) (BinaryState n a) e = absurd (no_group_leads_states f.group f.bits f.in_range (ap head e))
one_what (BinaryState n a) (Functions f) e = absurd (no_group_leads_states f.group f.bits f.in_range (sym (ap head e)))
one_what (CvWrite c x) (CvWrite d y) e = let same = one_cv 0xEC c d x y e in cc
one_what (CvVerify c x) (CvVerify d y) e = let same = one_cv 0xE4 c d x y e in cc
one_what (CvBitWrite c p a) (CvBitWrite d q b) e =
    let same = one_cv 0xE8 c d (0xF0 + 8 * bit a + p.place) (0xF0 + 8 * bit b + q.place) e in
    let last = one_bit 0xF0 a b p q same.1 in
    cc
one_what (CvBitVerify c p a) (CvBitVerify d q b) e =
    let same = one_cv 0xE8 c d (0xE0 + 8 * bit a + p.place) (0xE0 + 8 * bit b + q.place) e in
    let last = one_bit 0xE0 a b p q same.1 in
    cc
one_what (CvBitWrite c p a) (CvBitVerify d q b) e =
    let last : 0xF0 + 8 * bit a + p.place ≡ 0xE0 + 8 * bit b + q.place = cc in
    absurd (omega (arith, bit_below b))
one_what (CvBitVerify c p a) (CvBitWrite d q b) e =
    let last : 0xE0 + 8 * bit a + p.place ≡ 0xF0 + 8 * bit b + q.place = cc in
    absurd (omega (arith, bit_below a))
one_what w v e = absurd (omega (arith, leads w, leads v, ap head e))

-- the first bytes of an address
abbrev address_from : Address → ℕ
address_from Broadcast = 0
address_from (Short a) = 1
address_from (Long a) = 192

abbrev address_to : Address → ℕ
address_to Broadcast = 1
address_to (Short a) = 128
address_to (Long a) = 232

-- the bytes of a packet to locomotive decoders
abbrev loco_bytes : Address → What → List ℕ
loco_bytes to what = address_bytes to ++ instruction_bytes what

address_leads : (a : Address) (w : What)
    → (address_from a ≤ head (loco_bytes a w)) × (head (loco_bytes a w) < address_to a)
address_leads Broadcast w = (omega arith, omega arith)
address_leads (Short a) w = (omega arith, omega arith)
address_leads (Long a) w = (omega arith, omega arith)

one_loco : (a b : Address) (w v : What) → loco_bytes a w ≡ loco_bytes b v → (a ≡ b) × (w ≡ v)
one_loco Broadcast Broadcast w v e =
    let rest : instruction_bytes w ≡ instruction_bytes v = cc in (refl, one_what w v rest)
one_loco (Short a) (Short b) w v e =
    let first : a.number ≡ b.number = cc in
    let rest : instruction_bytes w ≡ instruction_bytes v = cc in
    (ap Short (same_short a b first), one_what w v rest)
one_loco (Long a) (Long b) w v e =
    let high : 192 + a.number / 256 ≡ 192 + b.number / 256 = cc in
    let low : a.number % 256 ≡ b.number % 256 = cc in
    let rest : instruction_bytes w ≡ instruction_bytes v = cc in
    (ap Long (same_long a b (omega arith)), one_what w v rest)
one_loco a b w v e = absurd (omega (arith, address_leads a w, address_leads b v, ap head e))

-- the bytes before the error byte
abbrev bytes_of : Packet → List ℕ
bytes_of Idle = 0xFF ∷ 0 ∷ []
bytes_of (Loco to what) = loco_bytes to what
bytes_of (Accessory board output on) = accessory_bytes board output on
bytes_of (Signal signal aspect) = signal_bytes signal aspect
bytes_of (Other other) = []

-- their first, and how many they are
abbrev Leads : Packet → ℕ → ℕ → Type 0
Leads Idle first len = first ≡ 255
Leads (Loco to what) first len = (first < 232) × (128 ≤ first → 192 ≤ first)
Leads (Accessory board output on) first len = (128 ≤ first) × (first < 192) × (len ≡ 2)
Leads (Signal signal aspect) first len = (128 ≤ first) × (first < 192) × (len ≡ 3)
Leads (Other other) first len = Unit {0}

loco_leads : (to : Address) (w : What) → Leads (Loco to w) (head (loco_bytes to w)) (length (loco_bytes to w))
loco_leads Broadcast w = (omega arith, λ h. omega arith)
loco_leads (Short a) w = (omega arith, λ h. omega arith)
loco_leads (Long a) w = (omega arith, λ h. omega arith)

packet_leads : (p : Packet) → Leads p (head (bytes_of p)) (length (bytes_of p))
packet_leads Idle = refl
packet_leads (Loco to what) = loco_leads to what
packet_leads (Accessory board output on) = (omega arith, omega arith, refl)
packet_leads (Signal signal aspect) = (omega arith, omega arith, refl)
packet_leads (Other other) = tt

pub one_packet : (p q : Packet) → spelling p ≡ spelling q → p ≡ q
one_packet Idle Idle e = refl
one_packet (Loco a w) (Loco b v) e =
    let same = one_loco a b w v (same_bytes (loco_bytes a w) (loco_bytes b v) e) in cc
one_packet (Accessory b o x) (Accessory c u y) e =
    let bytes : accessory_bytes b o x ≡ accessory_bytes c u y =
    same_bytes (accessory_bytes b o x) (accessory_bytes c u y) e in
    let first : 128 + b.number % 64 ≡ 128 + c.number % 64 = cc in
    let second : 128 + 16 * (7 - b.number / 64) + 8 * bit x + o.number ≡ 128 + 16 * (7 - c.number / 64) + 8 * bit y
    + u.number =
    cc in
    let below_x = bit_below x in
    let below_y = bit_below y in
    let board : b ≡ c = same_board b c (omega arith) in
    let output : o ≡ u = same_output o u (omega arith) in
    let on : x ≡ y = same_bit x y (omega arith) in
    cc
one_packet (Signal a x) (Signal b y) e =
    let bytes : signal_bytes a x ≡ signal_bytes b y = same_bytes (signal_bytes a x) (signal_bytes b y) e in
    let first : 128 + a.number / 4 % 64 ≡ 128 + b.number / 4 % 64 = cc in
    let second : 16 * (7 - a.number / 4 / 64) + 2 * (a.number % 4) + 1 ≡ 16 * (7 - b.number / 4 / 64)
    + 2 * (b.number % 4) + 1 =
    cc in
    let address : a ≡ b = same_signal a b (omega arith) in
    let aspect : x ≡ y = cc in
    cc
one_packet (Other a) (Other b) e = ap Other (same_other a b e)
one_packet (Other a) Idle e = absurd (a.no_row (0xFF ∷ 0 ∷ [], inl refl, e))
one_packet (Other a) (Loco b v) e = absurd (a.no_row (loco_bytes b v, inr (inl (b, v, refl)), e))
one_packet (Other a) (Accessory b o x) e = absurd (a.no_row (accessory_bytes b o x, inr (inr (inl (b, o, x, refl))), e))
one_packet (Other a) (Signal b x) e = absurd (a.no_row (signal_bytes b x, inr (inr (inr (b, x, refl))), e))
one_packet Idle (Other a) e = absurd (a.no_row (0xFF ∷ 0 ∷ [], inl refl, sym e))
one_packet (Loco b v) (Other a) e = absurd (a.no_row (loco_bytes b v, inr (inl (b, v, refl)), sym e))
one_packet (Accessory b o x) (Other a) e =
    absurd (a.no_row (accessory_bytes b o x, inr (inr (inl (b, o, x, refl))), sym e))
one_packet (Signal b x) (Other a) e = absurd (a.no_row (signal_bytes b x, inr (inr (inr (b, x, refl))), sym e))
one_packet p q e =
    let bytes : bytes_of p ≡ bytes_of q = same_bytes (bytes_of p) (bytes_of q) e in
    absurd (grind (arith, packet_leads p, packet_leads q, ap head bytes, ap length bytes))
