-- The table of the packets of the standard that the toolkit does not obey: the bytes of each row
-- without the error byte (NMRA S-9.2.1; RCN-211 to RCN-214). The comment of a row is its bit pattern,
-- the highest bit first.
use Rattle.std.specs.Prelude.{◌≡◌, ◌≤◌, ℕ, ◌+◌, ◌-◌, ◌*◌, ◌/◌, ◌%◌, IsTrue, List, [], ◌∷◌, ◌++◌, Option, None, Some}
use Rattle.std.specs.Prelude.{IfSome}
use Rattle.dcc_packet.specs.declared.accessory.Output.{Output}
use Rattle.dcc_packet.specs.Instruction.{is_cv_access}
use Rattle.dcc_packet.specs.Rows.{address_bytes, bit, instruction_bytes}
use Rattle.dcc_plain.specs.declared.standard.FewBytes.{FewBytes}
use Rattle.dcc_plain.specs.declared.standard.FewBytes.TheVariants.{One, Two, Three, Four}
use Rattle.dcc_plain.specs.declared.standard.StandardWhat.{StandardWhat}
use Rattle.dcc_plain.specs.declared.standard.StandardWhat.TheVariants.{HardReset, FactoryTest, DecoderFlags}
use Rattle.dcc_plain.specs.declared.standard.StandardWhat.TheVariants.{LongAddressUse, Acknowledge, Consist, Combined}
use Rattle.dcc_plain.specs.declared.standard.StandardWhat.TheVariants.{Analog, OperatingModes, LongState, ShortCv}
use Rattle.dcc_plain.specs.declared.standard.StandardWhat.TheVariants.{ExtendedRead, ExtendedWrite, ExtendedBitWrite}
use Rattle.dcc_plain.specs.declared.standard.StandardPacket.{StandardPacket}
use Rattle.dcc_plain.specs.declared.standard.StandardPacket.TheVariants.{Loco, ModelTime, ModelDate, SystemTime}
use Rattle.dcc_plain.specs.declared.standard.StandardPacket.TheVariants.{BoardNothing, SignalNothing, BoardCv, SignalCv}

abbrev pub few_bytes : FewBytes → List ℕ
few_bytes (One a) = a ∷ []
few_bytes (Two a b) = a ∷ b ∷ []
few_bytes (Three a b c) = a ∷ b ∷ c ∷ []
few_bytes (Four a b c d) = a ∷ b ∷ c ∷ d ∷ []

-- the byte `kind` with the sequence number, and the number of a CV less 1 in three bytes
abbrev pub extended_bytes : ℕ → ℕ → ℕ → List ℕ
extended_bytes kind sequence cv =
    (kind + sequence) ∷ ((cv - 1) / 65536) ∷ ((cv - 1) / 256 % 256) ∷ ((cv - 1) % 256) ∷ []

-- INSTRUCTIONS to locomotive decoders
abbrev pub what_bytes : StandardWhat → List ℕ
-- hard reset: 00000001
what_bytes HardReset = 1 ∷ []
-- factory test: 0000001D and one or two bytes
what_bytes (FactoryTest upper first None) = (2 + bit upper) ∷ first ∷ []
what_bytes (FactoryTest upper first (Some second)) = (2 + bit upper) ∷ first ∷ second ∷ []
-- decoder flags: 0000011D and one byte
what_bytes (DecoderFlags upper flags) = (6 + bit upper) ∷ flags ∷ []
-- use of the long address: 0000101D, D is bit 5 of CV29
what_bytes (LongAddressUse on) = (10 + bit on) ∷ []
-- request of an acknowledgement: 00001111
what_bytes Acknowledge = 15 ∷ []
-- consist control: 0001001R 0AAAAAAA, R is 1 for the opposite direction
what_bytes (Consist number reversed) = (0x12 + bit reversed) ∷ number ∷ []
-- speed, direction and functions: 00111100 DSSSSSSS, and F0 to F7, F8 to F15, F16 to F23 and F24 to
-- F31 in one to four bytes
what_bytes (Combined forward speed functions) = 0x3C ∷ (128 * bit forward + speed.bits) ∷ few_bytes functions
-- analog function group: 00111101 SSSSSSSS DDDDDDDD
what_bytes (Analog output value) = 0x3D ∷ output ∷ value ∷ []
-- special operating modes: 00111110 DDDDDDDD
what_bytes (OperatingModes modes) = 0x3E ∷ modes ∷ []
-- binary state, long form: 11000000 DLLLLLLL HHHHHHHH, D is 1 for on, the number is H * 128 + L
what_bytes (LongState number on) = 0xC0 ∷ (128 * bit on + number % 128) ∷ (number / 128) ∷ []
-- CV access, short form: 1111001C DDDDDDDD, C is 0 for CV23 and 1 for CV24
what_bytes (ShortCv is_24 value) = (0xF2 + bit is_24) ∷ value ∷ []
-- XPOM, read: 111001SS VVVVVVVV VVVVVVVV VVVVVVVV
what_bytes (ExtendedRead sequence cv) = extended_bytes 0xE4 sequence cv
-- XPOM, write: 111011SS VVVVVVVV VVVVVVVV VVVVVVVV and one to four bytes
what_bytes (ExtendedWrite sequence cv values) = extended_bytes 0xEC sequence cv ++ few_bytes values
-- XPOM, write of a bit: 111010SS VVVVVVVV VVVVVVVV VVVVVVVV 1111DBBB, D is the bit, BBB is its place
what_bytes (ExtendedBitWrite sequence cv place one) =
    extended_bytes 0xE8 sequence cv ++ (0xF0 + 8 * bit one + place.place) ∷ []

-- a sequence number and the number of a CV are in their ranges
abbrev pub IsExtended : ℕ → ℕ → Type 0
IsExtended sequence cv = (sequence ≤ 3) × (1 ≤ cv) × (cv ≤ 16777216)

-- the numbers of the instruction are in their ranges
abbrev pub WhatFits : StandardWhat → Type 0
WhatFits (Consist number reversed) = number ≤ 127
WhatFits (LongState number on) = number ≤ 32767
WhatFits (ExtendedRead sequence cv) = IsExtended sequence cv
WhatFits (ExtendedWrite sequence cv values) = IsExtended sequence cv
WhatFits (ExtendedBitWrite sequence cv place one) = IsExtended sequence cv
WhatFits what = Unit {0}

-- PACKETS
-- 10AAAAAA, the six low bits of the board number
abbrev pub board_low : ℕ → ℕ
board_low board = 0x80 + board % 64

-- 0NNN0000, the complement of the three high bits of the board number
abbrev pub board_high : ℕ → ℕ
board_high board = 16 * (7 - board / 64)

-- the bits CDDD of an access to a CV: 0000 for the board, or 1DDD for its output DDD
abbrev pub output_bits : Option Output → ℕ
output_bits None = 0
output_bits (Some output) = 8 + output.number

abbrev pub standard_bytes : StandardPacket → List ℕ
-- packets to locomotive decoders: an address and an instruction
standard_bytes (Loco to what) = address_bytes to ++ what_bytes what
-- model time: 00000000 11000001 00MMMMMM WWWHHHHH U0BBBBBB, with minute, weekday, hour and factor
standard_bytes (ModelTime minute weekday hour is_set factor) =
    0 ∷ 0xC1 ∷ minute ∷ (32 * weekday + hour) ∷ (128 * bit is_set + factor) ∷ []
-- model date: 00000000 11000001 010TTTTT MMMMYYYY YYYYYYYY, with day, month and year
standard_bytes (ModelDate day month year) = 0 ∷ 0xC1 ∷ (64 + day) ∷ (16 * month + year / 256) ∷ (year % 256) ∷ []
-- system time: 00000000 11000010 MMMMMMMM MMMMMMMM
standard_bytes (SystemTime milliseconds) = 0 ∷ 0xC2 ∷ (milliseconds / 256) ∷ (milliseconds % 256) ∷ []
-- basic accessory packet that switches nothing: 10AAAAAA 0NNN1PP0, PP is the pair
standard_bytes (BoardNothing board pair) = board_low board.number ∷ (board_high board.number + 8 + 2 * pair) ∷ []
-- extended accessory packet that sets nothing: 10AAAAAA 0NNN1PP1, PP is the address modulo 4
standard_bytes (SignalNothing address) =
    board_low (address.number / 4) ∷ (board_high (address.number / 4) + 9 + 2 * (address.number % 4)) ∷ []
-- access to a CV of a board: 10AAAAAA 1NNNCDDD 1110KKVV VVVVVVVV DDDDDDDD
standard_bytes (BoardCv board output access) =
    board_low board.number ∷ (128 + board_high board.number + output_bits output) ∷ instruction_bytes access
-- access to a CV of a signal: 10AAAAAA 0NNN0PP1 1110KKVV VVVVVVVV DDDDDDDD
standard_bytes (SignalCv address access) =
    board_low (address.number / 4) ∷ (board_high (address.number / 4) + 1 + 2 * (address.number % 4))
    ∷ instruction_bytes access

-- the numbers of the packet are in their ranges, and an access to a CV is one
abbrev pub StandardFits : StandardPacket → Type 0
StandardFits (Loco to what) = WhatFits what
StandardFits (ModelTime minute weekday hour is_set factor) =
    (minute ≤ 59) × (weekday ≤ 7) × (hour ≤ 23) × (factor ≤ 63)
StandardFits (ModelDate day month year) = (1 ≤ day) × (day ≤ 31) × (1 ≤ month) × (month ≤ 12) × (year ≤ 4095)
StandardFits (SystemTime milliseconds) = milliseconds ≤ 65535
StandardFits (BoardNothing board pair) = pair ≤ 3
StandardFits (SignalNothing address) = Unit {0}
StandardFits (BoardCv board output access) = IsTrue (is_cv_access access)
StandardFits (SignalCv address access) = IsTrue (is_cv_access access)

-- `packet` is the packet whose row has the bytes `bytes`, or `None` if no row has them
pub record IsStandardPacketOf (bytes : List ℕ) (packet : Option StandardPacket) : Type 0 where
  pub found : IfSome packet (λ it. StandardFits it × (standard_bytes it ≡ bytes))
  pub only : (it : StandardPacket) → StandardFits it → standard_bytes it ≡ bytes → packet ≡ Some it
