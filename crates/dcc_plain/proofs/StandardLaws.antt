-- No two standard packets have the same bytes.
use Rattle.std.proofs.Common.{◌≡◌, ◌≤◌, ◌<◌, ◌+◌, ◌-◌, ◌*◌, ◌/◌, ◌%◌, ◌++◌, ℕ, Bool, IsTrue, List, [], ◌∷◌, Option}
use Rattle.std.proofs.Common.{None, Some}
use Rattle.std.proofs.Common.{IfSome, IfNone, length, refl, sym, ap, ◌∙◌, arith}
use Rattle.dcc_wire.specs.Frames.{with_error_byte}
use Rattle.dcc_packet.specs.declared.accessory.Output.{Output}
use Rattle.dcc_packet.specs.declared.address.Address.TheVariants.{Broadcast, Short, Long}
use Rattle.dcc_packet.specs.declared.instruction.What.{What}
use Rattle.dcc_packet.specs.declared.instruction.What.TheVariants.{CvWrite, CvVerify, CvBitWrite, CvBitVerify}
use Rattle.dcc_packet.specs.declared.packet.Packet.TheVariants.{Loco as ToLoco}
use Rattle.dcc_packet.specs.Instruction.{is_cv_access}
use Rattle.dcc_packet.specs.Rows.{bit, instruction_bytes}
use Rattle.dcc_packet.proofs.OneSpelling.{one_bit, one_packet}
use Rattle.dcc_packet.proofs.Same.{bit_below, same_bit, same_board, same_long, same_output, same_short, same_signal}
use Rattle.dcc_packet.proofs.Same.{same_speed128}
use Rattle.dcc_plain.specs.declared.standard.FewBytes.{FewBytes}
use Rattle.dcc_plain.specs.declared.standard.FewBytes.TheVariants.{One, Two, Three, Four}
use Rattle.dcc_plain.specs.declared.standard.StandardWhat.{StandardWhat}
use Rattle.dcc_plain.specs.declared.standard.StandardWhat.TheVariants.{HardReset, FactoryTest, DecoderFlags}
use Rattle.dcc_plain.specs.declared.standard.StandardWhat.TheVariants.{LongAddressUse, Acknowledge, Consist, Combined}
use Rattle.dcc_plain.specs.declared.standard.StandardWhat.TheVariants.{Analog, OperatingModes, LongState, ShortCv}
use Rattle.dcc_plain.specs.declared.standard.StandardWhat.TheVariants.{ExtendedRead, ExtendedWrite, ExtendedBitWrite}
use Rattle.dcc_plain.specs.declared.standard.StandardPacket.{StandardPacket}
use Rattle.dcc_plain.specs.declared.standard.StandardPacket.TheVariants.{Loco, ModelTime, ModelDate, SystemTime}
use Rattle.dcc_plain.specs.declared.standard.StandardPacket.TheVariants.{BoardNothing, SignalNothing, BoardCv, SignalCv}
use Rattle.dcc_plain.specs.Standard.{IsStandardPacketOf, IsExtended, StandardFits, WhatFits, board_high, board_low}
use Rattle.dcc_plain.specs.Standard.{extended_bytes, few_bytes, output_bits, standard_bytes, what_bytes}

abbrev first : List ℕ → ℕ
first [] = 0
first (a ∷ rest) = a

abbrev second : List ℕ → ℕ
second (a ∷ b ∷ rest) = b
second bytes = 0

abbrev third : List ℕ → ℕ
third (a ∷ b ∷ c ∷ rest) = c
third bytes = 0

one_few : (x y : FewBytes) → few_bytes x ≡ few_bytes y → x ≡ y
one_few (One a) (One b) e = cc
one_few (Two a c) (Two b d) e = cc
one_few (Three a c k) (Three b d l) e = cc
one_few (Four a c k m) (Four b d l n) e = cc
one_few x y e = absurd (omega (arith, ap length e))

-- the first bytes of an instruction
abbrev from : StandardWhat → ℕ
from HardReset = 1
from (FactoryTest upper a b) = 2
from (DecoderFlags upper flags) = 6
from (LongAddressUse on) = 10
from Acknowledge = 15
from (Consist number reversed) = 18
from (Combined forward speed functions) = 60
from (Analog output value) = 61
from (OperatingModes modes) = 62
from (LongState number on) = 192
from (ShortCv is_24 value) = 242
from (ExtendedRead sequence cv) = 228
from (ExtendedWrite sequence cv values) = 236
from (ExtendedBitWrite sequence cv place one) = 232

abbrev to : StandardWhat → ℕ
to HardReset = 2
to (FactoryTest upper a b) = 4
to (DecoderFlags upper flags) = 8
to (LongAddressUse on) = 12
to Acknowledge = 16
to (Consist number reversed) = 20
to (Combined forward speed functions) = 61
to (Analog output value) = 62
to (OperatingModes modes) = 63
to (LongState number on) = 193
to (ShortCv is_24 value) = 244
to (ExtendedRead sequence cv) = 232
to (ExtendedWrite sequence cv values) = 240
to (ExtendedBitWrite sequence cv place one) = 236

leads : (w : StandardWhat) → WhatFits w → (from w ≤ first (what_bytes w)) × (first (what_bytes w) < to w)
leads HardReset fits = (omega arith, omega arith)
leads (FactoryTest upper a None) fits = (omega arith, omega (arith, bit_below upper))
leads (FactoryTest upper a (Some b)) fits = (omega arith, omega (arith, bit_below upper))
leads (DecoderFlags upper flags) fits = (omega arith, omega (arith, bit_below upper))
leads (LongAddressUse on) fits = (omega arith, omega (arith, bit_below on))
leads Acknowledge fits = (omega arith, omega arith)
leads (Consist number reversed) fits = (omega arith, omega (arith, bit_below reversed))
leads (Combined forward speed functions) fits = (omega arith, omega arith)
leads (Analog output value) fits = (omega arith, omega arith)
leads (OperatingModes modes) fits = (omega arith, omega arith)
leads (LongState number on) fits = (omega arith, omega arith)
leads (ShortCv is_24 value) fits = (omega arith, omega (arith, bit_below is_24))
leads (ExtendedRead sequence cv) fits = (omega arith, omega (arith, fits.0))
leads (ExtendedWrite sequence cv values) fits = (omega arith, omega (arith, fits.0))
leads (ExtendedBitWrite sequence cv place one) fits = (omega arith, omega (arith, fits.0))

one_of_bits : (kind : ℕ) (a b : Bool) → kind + bit a ≡ kind + bit b → a ≡ b
one_of_bits kind a b e = same_bit a b (omega arith)

one_cv : (kind s t c d : ℕ) (x y : List ℕ) → IsExtended s c → IsExtended t d
    → extended_bytes kind s c ++ x ≡ extended_bytes kind t d ++ y → (s ≡ t) × (c ≡ d) × (x ≡ y)
one_cv kind s t c d x y f g e =
    let sequence : kind + s ≡ kind + t = cc in
    let high : (c - 1) / 65536 ≡ (d - 1) / 65536 = cc in
    let middle : (c - 1) / 256 % 256 ≡ (d - 1) / 256 % 256 = cc in
    let low : (c - 1) % 256 ≡ (d - 1) % 256 = cc in
    (omega arith, omega (arith, f.1, g.1), cc)

one_what : (p q : StandardWhat) → WhatFits p → WhatFits q → what_bytes p ≡ what_bytes q → p ≡ q
one_what HardReset HardReset f g e = refl
one_what Acknowledge Acknowledge f g e = refl
one_what (FactoryTest u a None) (FactoryTest v b None) f g e =
    let upper : u ≡ v = one_of_bits 2 u v cc in cc
one_what (FactoryTest u a (Some c)) (FactoryTest v b (Some d)) f g e =
    let upper : u ≡ v = one_of_bits 2 u v cc in cc
one_what (FactoryTest u a None) (FactoryTest v b (Some d)) f g e = absurd (omega (arith, ap length e))
one_what (FactoryTest u a (Some c)) (FactoryTest v b None) f g e = absurd (omega (arith, ap length e))
one_what (DecoderFlags u a) (DecoderFlags v b) f g e = let upper : u ≡ v = one_of_bits 6 u v cc in cc
one_what (LongAddressUse u) (LongAddressUse v) f g e = let on : u ≡ v = one_of_bits 10 u v cc in cc
one_what (Consist a u) (Consist b v) f g e = let reversed : u ≡ v = one_of_bits 0x12 u v cc in cc
one_what (Combined u s x) (Combined v t y) f g e =
    let byte : 128 * bit u + s.bits ≡ 128 * bit v + t.bits = cc in
    let below_u = bit_below u in
    let below_v = bit_below v in
    let forward : u ≡ v = same_bit u v (omega arith) in
    let speed : s ≡ t = same_speed128 s t (omega arith) in
    let functions : x ≡ y = one_few x y cc in
    cc
one_what (Analog a x) (Analog b y) f g e = cc
one_what (OperatingModes a) (OperatingModes b) f g e = cc
one_what (LongState a u) (LongState b v) f g e =
    let low : 128 * bit u + a % 128 ≡ 128 * bit v + b % 128 = cc in
    let high : a / 128 ≡ b / 128 = cc in
    let below_u = bit_below u in
    let below_v = bit_below v in
    let on : u ≡ v = same_bit u v (omega arith) in
    let number : a ≡ b = omega arith in
    cc
one_what (ShortCv u a) (ShortCv v b) f g e = let is_24 : u ≡ v = one_of_bits 0xF2 u v cc in cc
one_what (ExtendedRead s c) (ExtendedRead t d) f g e =
    let same = one_cv 0xE4 s t c d [] [] f g e in
    let sequence : s ≡ t = same.0 in
    let cv : c ≡ d = same.1 in
    cc
one_what (ExtendedWrite s c x) (ExtendedWrite t d y) f g e =
    let same = one_cv 0xEC s t c d (few_bytes x) (few_bytes y) f g e in
    let sequence : s ≡ t = same.0 in
    let cv : c ≡ d = same.1 in
    let values : x ≡ y = one_few x y same.2 in
    cc
one_what (ExtendedBitWrite s c p a) (ExtendedBitWrite t d q b) f g e =
    let same = one_cv 0xE8 s t c d ((0xF0 + 8 * bit a + p.place) ∷ []) ((0xF0 + 8 * bit b + q.place) ∷ []) f g e in
    let sequence : s ≡ t = same.0 in
    let cv : c ≡ d = same.1 in
    let byte : 0xF0 + 8 * bit a + p.place ≡ 0xF0 + 8 * bit b + q.place = cc (same.2) in
    let last = one_bit 0xF0 a b p q byte in
    cc
one_what p q f g e = absurd (omega (arith, leads p f, leads q g, ap first e))

one_access : (w v : What) → instruction_bytes w ≡ instruction_bytes v → w ≡ v
one_access w v e =
    let same : ToLoco Broadcast w ≡ ToLoco Broadcast v =
    one_packet (ToLoco Broadcast w) (ToLoco Broadcast v) (ap (λ (l : List ℕ). with_error_byte (0 ∷ l)) e) in
    cc

three_bytes : (w : What) → IsTrue (is_cv_access w) → length (instruction_bytes w) ≡ 3
three_bytes (CvWrite c x) access = refl
three_bytes (CvVerify c x) access = refl
three_bytes (CvBitWrite c p b) access = refl
three_bytes (CvBitVerify c p b) access = refl
three_bytes w access = absurd cc

-- what the first bytes of a packet and their number say of it
abbrev Leads : StandardPacket → List ℕ → Type 0
Leads (Loco Broadcast what) bytes = (first bytes ≡ 0) × (193 ≤ second bytes → 228 ≤ second bytes)
Leads (Loco address what) bytes = (1 ≤ first bytes) × (128 ≤ first bytes → 192 ≤ first bytes)
Leads (ModelTime minute weekday hour is_set factor) bytes =
    (first bytes ≡ 0) × (second bytes ≡ 193) × (third bytes < 64)
Leads (ModelDate day month year) bytes = (first bytes ≡ 0) × (second bytes ≡ 193) × (64 ≤ third bytes)
Leads (SystemTime milliseconds) bytes = (first bytes ≡ 0) × (second bytes ≡ 194)
Leads (BoardNothing board pair) bytes =
    (128 ≤ first bytes) × (first bytes < 192) × (length bytes ≡ 2) × (second bytes % 2 ≡ 0)
Leads (SignalNothing address) bytes =
    (128 ≤ first bytes) × (first bytes < 192) × (length bytes ≡ 2) × (second bytes % 2 ≡ 1)
Leads (BoardCv board output access) bytes =
    (128 ≤ first bytes) × (first bytes < 192) × (length bytes ≡ 5) × (128 ≤ second bytes)
Leads (SignalCv address access) bytes =
    (128 ≤ first bytes) × (first bytes < 192) × (length bytes ≡ 5) × (second bytes < 128)

broadcast_leads : (w : StandardWhat) → WhatFits w → 193 ≤ first (what_bytes w) → 228 ≤ first (what_bytes w)
broadcast_leads (ExtendedRead s c) fits h = omega arith
broadcast_leads (ExtendedWrite s c x) fits h = omega arith
broadcast_leads (ExtendedBitWrite s c p b) fits h = omega arith
broadcast_leads (ShortCv b x) fits h = omega arith
broadcast_leads w fits h = absurd (omega (arith, leads w fits))

second_of : (a : ℕ) (w : StandardWhat) → second (a ∷ what_bytes w) ≡ first (what_bytes w)
second_of a (FactoryTest u b None) = refl
second_of a (FactoryTest u b (Some c)) = refl
second_of a w = refl

packet_leads : (p : StandardPacket) → StandardFits p → Leads p (standard_bytes p)
packet_leads (Loco Broadcast what) fits =
    (refl, rw (second_of 0 what) (broadcast_leads what fits))
packet_leads (Loco (Short a) what) fits = (omega arith, λ h. omega arith)
packet_leads (Loco (Long a) what) fits = (omega arith, λ h. omega arith)
packet_leads (ModelTime minute weekday hour is_set factor) fits = (refl, refl, omega (arith, fits.0))
packet_leads (ModelDate day month year) fits = (refl, refl, omega arith)
packet_leads (SystemTime milliseconds) fits = (refl, refl)
packet_leads (BoardNothing board pair) fits = (omega arith, omega arith, refl, omega arith)
packet_leads (SignalNothing address) fits = (omega arith, omega arith, refl, omega arith)
packet_leads (BoardCv board output access) fits =
    (omega arith, omega arith, omega (arith, three_bytes access fits), omega arith)
packet_leads (SignalCv address access) fits =
    (omega arith, omega arith, omega (arith, three_bytes access fits), omega arith)

one_output : (o u : Option Output) → output_bits o ≡ output_bits u → o ≡ u
one_output None None e = refl
one_output (Some a) (Some b) e = ap Some (same_output a b (omega arith))
one_output None (Some b) e = absurd (omega arith)
one_output (Some a) None e = absurd (omega arith)

output_below : (o : Option Output) → output_bits o ≤ 15
output_below None = omega arith
output_below (Some o) = omega arith

pub one_standard : (p q : StandardPacket) → StandardFits p → StandardFits q → standard_bytes p ≡ standard_bytes q
    → p ≡ q
one_standard (Loco Broadcast w) (Loco Broadcast v) f g e =
    let same = one_what w v f g cc in cc
one_standard (Loco (Short a) w) (Loco (Short b) v) f g e =
    let to : a ≡ b = same_short a b cc in
    let same = one_what w v f g cc in
    cc
one_standard (Loco (Long a) w) (Loco (Long b) v) f g e =
    let high : 192 + a.number / 256 ≡ 192 + b.number / 256 = cc in
    let low : a.number % 256 ≡ b.number % 256 = cc in
    let to : a ≡ b = same_long a b (omega arith) in
    let same = one_what w v f g cc in
    cc
one_standard (Loco (Short a) w) (Loco (Long b) v) f g e =
    let high : a.number ≡ 192 + b.number / 256 = cc in absurd (omega arith)
one_standard (Loco (Long a) w) (Loco (Short b) v) f g e =
    let high : 192 + a.number / 256 ≡ b.number = cc in absurd (omega arith)
one_standard (ModelTime m w h s x) (ModelTime n v k t y) f g e =
    let day : 32 * w + h ≡ 32 * v + k = cc in
    let byte : 128 * bit s + x ≡ 128 * bit t + y = cc in
    let below_s = bit_below s in
    let below_t = bit_below t in
    let minute : m ≡ n = cc in
    let weekday : w ≡ v = omega arith in
    let hour : h ≡ k = omega arith in
    let is_set : s ≡ t = same_bit s t (omega arith) in
    let factor : x ≡ y = omega arith in
    cc
one_standard (ModelDate a m x) (ModelDate b n y) f g e =
    let first_byte : 64 + a ≡ 64 + b = cc in
    let high : 16 * m + x / 256 ≡ 16 * n + y / 256 = cc in
    let low : x % 256 ≡ y % 256 = cc in
    let day : a ≡ b = omega arith in
    let month : m ≡ n = omega arith in
    let year : x ≡ y = omega arith in
    cc
one_standard (SystemTime a) (SystemTime b) f g e =
    let high : a / 256 ≡ b / 256 = cc in
    let low : a % 256 ≡ b % 256 = cc in
    let same : a ≡ b = omega arith in
    cc
one_standard (BoardNothing a x) (BoardNothing b y) f g e =
    let low : board_low a.number ≡ board_low b.number = cc in
    let high : board_high a.number + 8 + 2 * x ≡ board_high b.number + 8 + 2 * y = cc in
    let board : a ≡ b = same_board a b (omega arith) in
    let pair : x ≡ y = omega arith in
    cc
one_standard (SignalNothing a) (SignalNothing b) f g e =
    let low : board_low (a.number / 4) ≡ board_low (b.number / 4) = cc in
    let high : board_high (a.number / 4) + 9 + 2 * (a.number % 4) ≡ board_high (b.number / 4) + 9 + 2 * (b.number % 4) =
    cc in
    let address : a ≡ b = same_signal a b (omega arith) in
    cc
one_standard (BoardCv a o w) (BoardCv b u v) f g e =
    let low : board_low a.number ≡ board_low b.number = cc in
    let high : 128 + board_high a.number + output_bits o ≡ 128 + board_high b.number + output_bits u = cc in
    let below_o = output_below o in
    let below_u = output_below u in
    let board : a ≡ b = same_board a b (omega arith) in
    let output : o ≡ u = one_output o u (omega arith) in
    let access : w ≡ v = one_access w v cc in
    cc
one_standard (SignalCv a w) (SignalCv b v) f g e =
    let low : board_low (a.number / 4) ≡ board_low (b.number / 4) = cc in
    let high : board_high (a.number / 4) + 1 + 2 * (a.number % 4) ≡ board_high (b.number / 4) + 1 + 2 * (b.number % 4) =
    cc in
    let address : a ≡ b = same_signal a b (omega arith) in
    let access : w ≡ v = one_access w v cc in
    cc
one_standard p q f g e =
    absurd (grind (arith, packet_leads p f, packet_leads q g, ap first e, ap second e, ap third e, ap length e))

pub read_of : (bytes : List ℕ) (packet : Option StandardPacket)
    → IfSome packet (λ it. StandardFits it × (standard_bytes it ≡ bytes))
    → IfNone packet ((it : StandardPacket) → StandardFits it → standard_bytes it ≡ bytes → ⊥)
    → IsStandardPacketOf bytes packet
read_of bytes None found none = record { found = found; only = λ it fits e. absurd (none it fits e) }
read_of bytes (Some p) found none =
    record { found = found; only = λ it fits e. ap Some (one_standard p it found.0 fits (found.1 ∙ sym e)) }

pub read_back : (packet : StandardPacket) → StandardFits packet
    → IsStandardPacketOf (standard_bytes packet) (Some packet)
read_back packet fits =
    record { found = (fits, refl); only = λ it fits_too e. ap Some (one_standard packet it fits fits_too (sym e)) }
