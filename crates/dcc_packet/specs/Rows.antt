-- The table of packets: the bytes of each row without the error byte (NMRA S-9.2.1; RCN-211 to
-- RCN-214). The comment of a row is its bit pattern, the highest bit first.
use Rattle.std.specs.Prelude.{◌≡◌, ◌⊎◌, ℕ, ◌+◌, ◌-◌, ◌*◌, ◌/◌, ◌%◌, Bool, true, false, List, [], ◌∷◌, ◌++◌}
use Rattle.dcc_wire.specs.Frames.{with_error_byte}
use Rattle.dcc_packet.specs.declared.address.Address.{Address}
use Rattle.dcc_packet.specs.declared.address.Address.TheVariants.{Broadcast, Short, Long}
use Rattle.dcc_packet.specs.declared.accessory.Board.{Board}
use Rattle.dcc_packet.specs.declared.accessory.Output.{Output}
use Rattle.dcc_packet.specs.declared.accessory.SignalAddress.{SignalAddress}
use Rattle.dcc_packet.specs.declared.functions.Group.{Group}
use Rattle.dcc_packet.specs.declared.functions.Group.TheVariants.{F0, F5, F9, F13, F21, F29, F37, F45, F53, F61}
use Rattle.dcc_packet.specs.declared.instruction.What.{What}
use Rattle.dcc_packet.specs.declared.instruction.What.TheVariants.{Reset, Speed28, Speed128, Functions, BinaryState}
use Rattle.dcc_packet.specs.declared.instruction.What.TheVariants.{CvWrite, CvVerify, CvBitWrite, CvBitVerify}

-- 1 for true, 0 for false
abbrev pub bit : Bool → ℕ
bit true = 1
bit false = 0

-- ADDRESSES of locomotive decoders (S-9.2.1, address partitions; RCN-211)
abbrev pub address_bytes : Address → List ℕ
-- 00000000
address_bytes Broadcast = 0 ∷ []
-- 0AAAAAAA
address_bytes (Short address) = address.number ∷ []
-- 11AAAAAA AAAAAAAA
address_bytes (Long address) = (192 + address.number / 256) ∷ (address.number % 256) ∷ []

-- FUNCTIONS (S-9.2.1, function groups one and two, feature expansion; RCN-212). In the first row
-- the bits from the lowest up are F1, F2, F3, F4 and F0. In each other row the lowest bit is the
-- first function of the group.
abbrev pub function_bytes : Group → ℕ → List ℕ
-- 100DDDDD
function_bytes F0 bits = (0x80 + bits) ∷ []
-- 1011DDDD
function_bytes F5 bits = (0xB0 + bits) ∷ []
-- 1010DDDD
function_bytes F9 bits = (0xA0 + bits) ∷ []
-- 11011110 DDDDDDDD
function_bytes F13 bits = 0xDE ∷ bits ∷ []
-- 11011111 DDDDDDDD
function_bytes F21 bits = 0xDF ∷ bits ∷ []
-- 11011000 DDDDDDDD
function_bytes F29 bits = 0xD8 ∷ bits ∷ []
-- 11011001 DDDDDDDD
function_bytes F37 bits = 0xD9 ∷ bits ∷ []
-- 11011010 DDDDDDDD
function_bytes F45 bits = 0xDA ∷ bits ∷ []
-- 11011011 DDDDDDDD
function_bytes F53 bits = 0xDB ∷ bits ∷ []
-- 11011100 DDDDDDDD
function_bytes F61 bits = 0xDC ∷ bits ∷ []

-- 1110KKVV VVVVVVVV and the byte `last`. KK comes from `kind`, and V is `cv - 1`, so that V is 0
-- for CV1.
abbrev pub cv_bytes : ℕ → ℕ → ℕ → List ℕ
cv_bytes kind cv last = (kind + (cv - 1) / 256) ∷ ((cv - 1) % 256) ∷ last ∷ []

-- INSTRUCTIONS to locomotive decoders
abbrev pub instruction_bytes : What → List ℕ
-- reset (S-9.2.1, decoder control; RCN-211): 00000000
instruction_bytes Reset = 0 ∷ []
-- speed and direction (S-9.2.1; RCN-212): 01DCSSSS, D is 1 for forward, C is the lowest of the five
-- speed bits
instruction_bytes (Speed28 forward speed) = (0x40 + 32 * bit forward + 16 * (speed.bits % 2) + speed.bits / 2) ∷ []
-- 128 speed steps (S-9.2.1, advanced operations; RCN-212): 00111111 DSSSSSSS, D is 1 for forward
instruction_bytes (Speed128 forward speed) = 0x3F ∷ (128 * bit forward + speed.bits) ∷ []
-- function groups: the bytes of `function_bytes`
instruction_bytes (Functions functions) = function_bytes functions.group functions.bits
-- binary state, short form (RCN-212): 11011101 DLLLLLLL, D is 1 for on, L is the number of the
-- state, 0 for all states
instruction_bytes (BinaryState state on) = 0xDD ∷ (128 * bit on + state.number) ∷ []
-- CV access, long form (S-9.2.1; RCN-214), write byte: 111011VV VVVVVVVV DDDDDDDD
instruction_bytes (CvWrite cv value) = cv_bytes 0xEC cv.number value
-- verify byte: 111001VV VVVVVVVV DDDDDDDD
instruction_bytes (CvVerify cv value) = cv_bytes 0xE4 cv.number value
-- bit manipulation, write: 111010VV VVVVVVVV 1111DBBB, D is the bit, BBB is its place
instruction_bytes (CvBitWrite cv place one) = cv_bytes 0xE8 cv.number (0xF0 + 8 * bit one + place.place)
-- bit manipulation, verify: 111010VV VVVVVVVV 1110DBBB, D is the bit, BBB is its place
instruction_bytes (CvBitVerify cv place one) = cv_bytes 0xE8 cv.number (0xE0 + 8 * bit one + place.place)

-- PACKETS. The bytes of the idle packet, and of packets to locomotive decoders, are in `spelling`.

-- basic accessory packet (S-9.2.1; RCN-213): 10AAAAAA 1NNNCDDD. A is the six low bits of the board
-- number, and N is the complement of its three high bits. C is 1 for on, and DDD is the output.
abbrev pub accessory_bytes : Board → Output → Bool → List ℕ
accessory_bytes board output on =
    (0x80 + board.number % 64) ∷ (0x80 + 16 * (7 - board.number / 64) + 8 * bit on + output.number) ∷ []

-- extended accessory packet (S-9.2.1; RCN-213): 10AAAAAA 0NNN0PP1 XXXXXXXX. The board number is the
-- signal address / 4. A is its six low bits, and N is the complement of its three high bits. PP is
-- the signal address modulo 4, and X is the aspect.
abbrev pub signal_bytes : SignalAddress → ℕ → List ℕ
signal_bytes address aspect =
    let board : ℕ = address.number / 4 in
    (0x80 + board % 64) ∷ (16 * (7 - board / 64) + 2 * (address.number % 4) + 1) ∷ aspect ∷ []

-- `bytes` are the bytes of some row of the table: the idle packet, a packet to locomotive decoders,
-- a basic accessory packet, or an extended accessory packet
abbrev pub IsPacketRow : List ℕ → Type 0
IsPacketRow bytes =
    (bytes ≡ 0xFF ∷ 0 ∷ [])
    ⊎ ((to : Address) × (what : What) × (bytes ≡ address_bytes to ++ instruction_bytes what))
    ⊎ ((board : Board) × (output : Output) × (on : Bool) × (bytes ≡ accessory_bytes board output on))
    ⊎ ((address : SignalAddress) × (aspect : ℕ) × (bytes ≡ signal_bytes address aspect))

-- `frame` consists of the bytes of some row of the table and their error byte
abbrev pub HasRow : List ℕ → Type 0
HasRow frame = (bytes : List ℕ) × IsPacketRow bytes × (frame ≡ with_error_byte bytes)
