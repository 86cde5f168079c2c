-- The values of single words of packet lines.
use Rattle.std.specs.Prelude.{ℕ, ◌&&◌, nat_le, Bool, true, false, List, ◌++◌, length, codes, slice_index, drop, ◌==◌}
use Rattle.std.specs.Prelude.{if◌then◌else◌, Result, Ok, Err}
use Rattle.std.specs.Char.{is_ascii_digit}
use Rattle.std.specs.Fmt.{decimal}
use Rattle.std.specs.List.{list_all}
use Rattle.std.specs.Str.Parse.{digits_value}
use Rattle.dcc_packet.specs.declared.address.Address.{Address}
use Rattle.dcc_packet.specs.declared.address.Address.TheVariants.{Broadcast, Short, Long}
use Rattle.dcc_packet.specs.declared.functions.Group.{Group}
use Rattle.dcc_packet.specs.declared.functions.Group.TheVariants.{F0, F5, F9, F13, F21, F29, F37, F45, F53, F61}
use Rattle.dcc_packet.specs.declared.fault.PacketFault.{PacketFault}
use Rattle.dcc_packet.specs.declared.fault.PacketFault.TheVariants as faults
use Rattle.dcc_wire.specs.declared.frame.Frame.{Frame}
use Rattle.dcc_wire.specs.declared.frame.FrameFault.{FrameFault}
use Rattle.dcc_wire.specs.FrameOf.{frame_of}
use Rattle.hex.specs.declared.error.FromHexError.{FromHexError}
use Rattle.hex.specs.Hex.{decode_of}
use Rattle.dcc_packet.specs.Values.{short_of, long_of}
use Rattle.dcc_packet.specs.Words.{Word, is_word}

-- the result of `f` for the value `x`, or the error `e` if there is no value
infixl 10 ◌>>=◌
abbrev pub ◌>>=◌ : {A B : Type 0} → Result A PacketFault → (A → Result B PacketFault) → Result B PacketFault
(Ok x) >>= f = f x
(Err e) >>= f = Err e

-- true if `word` consists of 1 to 5 decimal digits
abbrev pub is_numeral : Word → Bool
is_numeral word = nat_le 1 (length word) && nat_le (length word) 5 && list_all is_ascii_digit word

-- the number up to 65535 that `word` writes in 1 to 5 decimal digits, or the error P11
abbrev pub number : Word → Result ℕ PacketFault
number word =
    if is_numeral word
    then (if nat_le (digits_value 10 word) 65535 then Ok (digits_value 10 word) else Err faults.Number)
    else Err faults.Number

-- the number up to 255 that `word` writes in 1 to 5 decimal digits, or the error P11
abbrev pub small_number : Word → Result ℕ PacketFault
small_number word = do
  n ← number word
  if nat_le n 255 then Ok n else Err faults.Number

-- the address that a word TO means. The word is `all`, or `s` (code 115) or `l` (code 108) and then
-- a number. For any other word, the result is an error.
abbrev pub address : Word → Result Address PacketFault
address word =
    if is_word word (codes "all") then Ok Broadcast
    else if slice_index word 0 == 115 then small_number (drop 1 word) >>= short_of
    else if slice_index word 0 == 108 then number (drop 1 word) >>= long_of
    else Err faults.Word

-- true for the word `f` (forward), false for the word `r` (reverse), otherwise the error P10
abbrev pub direction : Word → Result Bool PacketFault
direction word =
    if is_word word (codes "f") then Ok true
    else if is_word word (codes "r") then Ok false
    else Err faults.Word

-- the function group that a word GROUP means, or the error of the word. The word is 0 for F0 to F4,
-- otherwise the number of the first function of the group.
abbrev pub group : Word → Result Group PacketFault
group word =
    if is_word word (codes "0") then Ok F0
    else if is_word word (codes "5") then Ok F5
    else if is_word word (codes "9") then Ok F9
    else if is_word word (codes "13") then Ok F13
    else if is_word word (codes "21") then Ok F21
    else if is_word word (codes "29") then Ok F29
    else if is_word word (codes "37") then Ok F37
    else if is_word word (codes "45") then Ok F45
    else if is_word word (codes "53") then Ok F53
    else if is_word word (codes "61") then Ok F61
    else Err faults.Word

-- the bit that a packet writes or verifies: true for the word `1`, false for the word `0`,
-- otherwise the error P10
abbrev pub bit_state : Word → Result Bool PacketFault
bit_state word =
    if is_word word (codes "1") then Ok true
    else if is_word word (codes "0") then Ok false
    else Err faults.Word

-- true for the word `on`, false for the word `off`, otherwise the error P10
abbrev pub switch : Word → Result Bool PacketFault
switch word =
    if is_word word (codes "on") then Ok true
    else if is_word word (codes "off") then Ok false
    else Err faults.Word

-- the bytes of a frame. If there is no frame, the result is the error P12.
abbrev pub frame_or_fault : Result Frame FrameFault → Result (List ℕ) PacketFault
frame_or_fault (Ok frame) = Ok frame
frame_or_fault (Err fault) = Err faults.Frame

abbrev pub framed_bytes : Result (List ℕ) FromHexError → Result (List ℕ) PacketFault
framed_bytes (Ok bytes) = frame_or_fault (frame_of bytes)
framed_bytes (Err fault) = Err faults.Frame

-- the bytes of the frame in a word HEX. The word has two hexadecimal digits for each byte, in upper
-- or lower case.
abbrev pub hex_frame : Word → Result (List ℕ) PacketFault
hex_frame word = framed_bytes (decode_of word)

-- the word TO of an address
abbrev pub address_word : Address → Word
address_word Broadcast = codes "all"
address_word (Short a) = codes "s" ++ decimal a.number
address_word (Long a) = codes "l" ++ decimal a.number

abbrev pub direction_word : Bool → Word
direction_word true = codes "f"
direction_word false = codes "r"

abbrev pub state_word : Bool → Word
state_word true = codes "1"
state_word false = codes "0"

abbrev pub switch_word : Bool → Word
switch_word true = codes "on"
switch_word false = codes "off"

abbrev pub group_word : Group → Word
group_word F0 = codes "0"
group_word F5 = codes "5"
group_word F9 = codes "9"
group_word F13 = codes "13"
group_word F21 = codes "21"
group_word F29 = codes "29"
group_word F37 = codes "37"
group_word F45 = codes "45"
group_word F53 = codes "53"
group_word F61 = codes "61"
