-- The plain words of the packets of the standard that the toolkit does not obey.
use Rattle.std.specs.Prelude.{ℕ, ◌+◌, ◌*◌, ◌/◌, ◌%◌, ◌==◌, ◌++◌, Bool, true, false, List, [], ◌∷◌, codes, decimal}
use Rattle.std.specs.Prelude.{if◌then◌else◌}
use Rattle.std.specs.Prelude.{Option, None, Some}
use Rattle.std.specs.List.{flat_map}
use Rattle.hex.specs.Hex.{encode_lower}
use Rattle.dcc_packet.specs.declared.accessory.Output.{Output}
use Rattle.dcc_packet.specs.declared.address.Address.TheVariants.{Broadcast}
use Rattle.dcc_packet.specs.LineWords.{state_word, switch_word}
use Rattle.dcc_plain.specs.declared.standard.FewBytes.{FewBytes}
use Rattle.dcc_plain.specs.declared.standard.FewBytes.TheVariants.{One, Two, Three, Four}
use Rattle.dcc_plain.specs.declared.standard.StandardWhat.{StandardWhat}
use Rattle.dcc_plain.specs.declared.standard.StandardWhat.TheVariants.{HardReset, FactoryTest, DecoderFlags}
use Rattle.dcc_plain.specs.declared.standard.StandardWhat.TheVariants.{LongAddressUse, Acknowledge, Consist, Combined}
use Rattle.dcc_plain.specs.declared.standard.StandardWhat.TheVariants.{Analog, OperatingModes, LongState, ShortCv}
use Rattle.dcc_plain.specs.declared.standard.StandardWhat.TheVariants.{ExtendedRead, ExtendedWrite, ExtendedBitWrite}
use Rattle.dcc_plain.specs.declared.standard.StandardPacket.{StandardPacket}
use Rattle.dcc_plain.specs.declared.standard.StandardPacket.TheVariants.{Loco, ModelTime, ModelDate, SystemTime}
use Rattle.dcc_plain.specs.declared.standard.StandardPacket.TheVariants.{BoardNothing, SignalNothing, BoardCv, SignalCv}
use Rattle.dcc_plain.specs.PlainWords.{address_words, direction_words, function_words, instruction_words, signal_name}
use Rattle.dcc_plain.specs.PlainWords.{speed128_words, state_words}
use Rattle.dcc_plain.specs.Standard.{what_bytes}

-- each byte as a space and two hex digits
abbrev pub hex_words : List ℕ → List ℕ
hex_words bytes = flat_map (λ byte. 32 ∷ encode_lower (byte ∷ [])) bytes

-- the two decimal digits of a number below 100
abbrev pub two_digits : ℕ → List ℕ
two_digits n = decimal (n / 10) ++ decimal (n % 10)

-- INSTRUCTIONS to locomotive decoders
-- the number of functions in some bytes, and their bits with the first function in the lowest bit
abbrev pub function_count : FewBytes → ℕ
function_count (One a) = 8
function_count (Two a b) = 16
function_count (Three a b c) = 24
function_count (Four a b c d) = 32

abbrev pub function_bits : FewBytes → ℕ
function_bits (One a) = a
function_bits (Two a b) = a + 256 * b
function_bits (Three a b c) = a + 256 * b + 65536 * c
function_bits (Four a b c d) = a + 256 * b + 65536 * c + 16777216 * d

-- one to four numbers, with a comma between every two
abbrev pub value_words : FewBytes → List ℕ
value_words (One a) = decimal a
value_words (Two a b) = decimal a ++ codes ", " ++ decimal b
value_words (Three a b c) = decimal a ++ codes ", " ++ decimal b ++ codes ", " ++ decimal c
value_words (Four a b c d) =
    decimal a ++ codes ", " ++ decimal b ++ codes ", " ++ decimal c ++ codes ", " ++ decimal d

abbrev pub join_words : ℕ → Bool → List ℕ
join_words number reversed = codes "join consist " ++ decimal number ++ (if reversed then codes ", reversed" else [])

-- consist control. Consist 0 stands for no consist.
abbrev pub consist_words : ℕ → Bool → List ℕ
consist_words number reversed = if number == 0 then codes "leave the consist" else join_words number reversed

abbrev pub what_words : StandardWhat → List ℕ
what_words HardReset = codes "hard reset"
what_words (FactoryTest upper first second) =
    codes "factory test" ++ hex_words (what_bytes (FactoryTest upper first second))
what_words (DecoderFlags upper flags) = codes "decoder flags" ++ hex_words (what_bytes (DecoderFlags upper flags))
what_words (LongAddressUse true) = codes "bit 5 of CV29 := 1 (long address)"
what_words (LongAddressUse false) = codes "bit 5 of CV29 := 0 (short address)"
what_words Acknowledge = codes "acknowledge"
what_words (Consist number reversed) = consist_words number reversed
what_words (Combined forward speed functions) =
    speed128_words speed.bits ++ codes ", " ++ direction_words forward ++ codes "; "
    ++ function_words 0 (function_count functions) (function_bits functions)
what_words (Analog output value) = codes "analog output " ++ decimal output ++ codes " at " ++ decimal value
what_words (OperatingModes modes) = codes "operating modes" ++ hex_words (modes ∷ [])
what_words (LongState number on) = state_words number ++ codes " " ++ switch_word on
what_words (ShortCv is_24 value) = (if is_24 then codes "CV24 := " else codes "CV23 := ") ++ decimal value
what_words (ExtendedRead sequence cv) = codes "extended read of CV" ++ decimal cv
what_words (ExtendedWrite sequence cv values) =
    codes "extended write of CV" ++ decimal cv ++ codes ": " ++ value_words values
what_words (ExtendedBitWrite sequence cv place one) =
    codes "extended bit write: bit " ++ decimal place.place ++ codes " of CV" ++ decimal cv ++ codes " := "
    ++ state_word one

-- PACKETS
-- weekday 0 is Monday. Weekday 7 stands for no weekday.
abbrev pub weekday_words : ℕ → List ℕ
weekday_words day =
    if day == 0 then codes "Monday "
    else if day == 1 then codes "Tuesday "
    else if day == 2 then codes "Wednesday "
    else if day == 3 then codes "Thursday "
    else if day == 4 then codes "Friday "
    else if day == 5 then codes "Saturday "
    else if day == 6 then codes "Sunday "
    else []

abbrev pub clock_words : ℕ → ℕ → List ℕ
clock_words hour minute = two_digits hour ++ codes ":" ++ two_digits minute

-- how many times faster than real time the model time runs, and whether it was set
abbrev pub factor_words : ℕ → Bool → List ℕ
factor_words factor is_set = codes ", factor " ++ decimal factor ++ (if is_set then codes ", set" else [])

-- a part of a date
abbrev pub dashed_words : ℕ → List ℕ
dashed_words n = codes "-" ++ two_digits n

abbrev pub time_words : ℕ → ℕ → ℕ → Bool → ℕ → List ℕ
time_words minute weekday hour is_set factor =
    codes "model time: " ++ weekday_words weekday ++ clock_words hour minute ++ factor_words factor is_set

-- a board, or one of its outputs or pairs `part`
abbrev pub board_words : ℕ → List ℕ → List ℕ
board_words board part =
    codes "board " ++ decimal board ++ part ++ (if board == 511 then codes ", all boards" else [])

abbrev pub output_words : Option Output → List ℕ
output_words None = []
output_words (Some output) = codes ", output " ++ decimal output.number

abbrev pub standard_words : StandardPacket → List ℕ
standard_words (Loco to what) = address_words to ++ codes ": " ++ what_words what
standard_words (ModelTime minute weekday hour is_set factor) = time_words minute weekday hour is_set factor
standard_words (ModelDate day month year) =
    codes "model date: " ++ decimal year ++ dashed_words month ++ dashed_words day
standard_words (SystemTime milliseconds) = codes "system time: " ++ decimal milliseconds ++ codes " ms"
standard_words (BoardNothing board pair) =
    board_words board.number (codes ", pair " ++ decimal pair) ++ codes ": nothing to do"
standard_words (SignalNothing address) = signal_name address.number ++ codes ": nothing to do"
standard_words (BoardCv board output access) =
    board_words board.number (output_words output) ++ codes ": " ++ instruction_words Broadcast access
standard_words (SignalCv address access) =
    signal_name address.number ++ codes ": " ++ instruction_words Broadcast access
