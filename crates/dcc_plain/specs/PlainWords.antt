-- The plain words of the parts of packets: speed steps, functions, turnouts and CVs.
use Rattle.std.specs.Prelude.{ℕ, ◌+◌, ◌-◌, ◌*◌, ◌/◌, ◌%◌, ◌^◌, ◌==◌, ◌||◌, ◌++◌, nat_le, Bool, true, false, List}
use Rattle.std.specs.Prelude.{[], ◌∷◌, codes}
use Rattle.std.specs.Prelude.{if◌then◌else◌, decimal}
use Rattle.std.specs.List.{filter, join_by, range_with_len}
use Rattle.dcc_packet.specs.declared.accessory.Board.{Board}
use Rattle.dcc_packet.specs.declared.accessory.Output.{Output}
use Rattle.dcc_packet.specs.declared.address.Address.{Address}
use Rattle.dcc_packet.specs.declared.address.Address.TheVariants.{Broadcast, Short, Long}
use Rattle.dcc_packet.specs.declared.cv.BitPlace.{BitPlace}
use Rattle.dcc_packet.specs.declared.cv.CvNumber.{CvNumber}
use Rattle.dcc_packet.specs.declared.functions.Group.{Group}
use Rattle.dcc_packet.specs.declared.functions.Group.TheVariants.{F0, F5, F9, F13, F21, F29, F37, F45, F53, F61}
use Rattle.dcc_packet.specs.declared.functions.GroupBits.{GroupBits}
use Rattle.dcc_packet.specs.declared.instruction.What.{What}
use Rattle.dcc_packet.specs.declared.instruction.What.TheVariants.{Reset, Speed28, Speed128, Functions, BinaryState}
use Rattle.dcc_packet.specs.declared.instruction.What.TheVariants.{CvWrite, CvVerify, CvBitWrite, CvBitVerify}
use Rattle.dcc_packet.specs.Bits.{is_one}
use Rattle.dcc_packet.specs.LineWords.{state_word, switch_word}
use Rattle.dcc_service.specs.declared.packet.ServicePacket.{ServicePacket}
use Rattle.dcc_service.specs.declared.packet.ServicePacket.TheVariants.{Write, Verify, BitWrite, BitVerify}

-- ADDRESSES of locomotive decoders
abbrev pub address_words : Address → List ℕ
address_words Broadcast = codes "all locomotives"
address_words (Short address) = codes "locomotive " ++ decimal address.number
address_words (Long address) = codes "locomotive " ++ decimal address.number ++ codes " (long)"

-- SPEED
abbrev pub direction_words : Bool → List ℕ
direction_words true = codes "forward"
direction_words false = codes "reverse"

-- the five speed bits `bits` of 28 speed steps
abbrev pub speed28_words : ℕ → List ℕ
speed28_words bits =
    if nat_le bits 1 then codes "stop"
    else if nat_le bits 3 then codes "emergency stop"
    else codes "step " ++ decimal (bits - 3) ++ codes " of 28"

-- the seven speed bits `bits` of 128 speed steps
abbrev pub speed128_words : ℕ → List ℕ
speed128_words bits =
    if bits == 0 then codes "stop"
    else if bits == 1 then codes "emergency stop"
    else codes "step " ++ decimal (bits - 1) ++ codes " of 126"

-- a speed in 28 steps to all locomotives, with the five speed bits `bits`. A broadcast only stops
-- locomotives. It sets their direction only if the bits are 0 or 2.
abbrev pub broadcast28_words : Bool → ℕ → List ℕ
broadcast28_words forward bits =
    if bits == 1 || bits == 3 then speed28_words bits
    else if nat_le bits 3 then speed28_words bits ++ codes ", " ++ direction_words forward
    else codes "nothing to do"

-- a speed in 28 steps for the address `to`
abbrev pub speed28_for : Address → Bool → ℕ → List ℕ
speed28_for Broadcast forward bits = broadcast28_words forward bits
speed28_for to forward bits = speed28_words bits ++ codes ", " ++ direction_words forward

-- FUNCTIONS
-- the number of the first function in a group, and the number of its functions. F0 is the first
-- function of its group.
abbrev pub group_numbers : Group → ℕ × ℕ
group_numbers F0 = (0, 5)
group_numbers F5 = (5, 4)
group_numbers F9 = (9, 4)
group_numbers F13 = (13, 8)
group_numbers F21 = (21, 8)
group_numbers F29 = (29, 8)
group_numbers F37 = (37, 8)
group_numbers F45 = (45, 8)
group_numbers F53 = (53, 8)
group_numbers F61 = (61, 8)

-- the bits `bits` of a function group in the order of its functions: the lowest bit is the first
-- function. Only in group F0 this changes the order, since there F0 is the highest of five bits.
abbrev pub bits_in_order : Group → ℕ → ℕ
bits_in_order F0 bits = 2 * (bits % 16) + bits / 16
bits_in_order group bits = bits

-- the numbers of those of the `count` functions from number `first` on that are on. The lowest bit
-- of `bits` is function `first`.
abbrev pub functions_on : ℕ → ℕ → ℕ → List ℕ
functions_on first count bits = filter (λ n. is_one bits (n - first)) (range_with_len first count)

abbrev pub function_name : ℕ → List ℕ
function_name n = codes "F" ++ decimal n

-- the names of the functions with the numbers `on`, and the words before the functions that are off
abbrev pub on_words : List ℕ → List ℕ
on_words [] = []
on_words (n ∷ more) = join_by function_name (codes ", ") (n ∷ more) ++ codes " on, the rest of "

-- the `count` functions from number `first` on, for example `F0 to F4`
abbrev pub range_words : ℕ → ℕ → List ℕ
range_words first count = function_name first ++ codes " to " ++ function_name (first + count - 1)

-- which of the `count` functions from number `first` on are on. The lowest bit of `bits` is function
-- `first`.
abbrev pub function_words : ℕ → ℕ → ℕ → List ℕ
function_words first count bits =
    if bits + 1 == 2 ^ count then range_words first count ++ codes " on"
    else on_words (functions_on first count bits) ++ range_words first count ++ codes " off"

abbrev pub group_words : GroupBits → List ℕ
group_words functions =
    let numbers : ℕ × ℕ = group_numbers functions.group in
    function_words numbers.0 numbers.1 (bits_in_order functions.group functions.bits)

-- the binary state with the number `number`. Number 0 stands for all binary states.
abbrev pub state_words : ℕ → List ℕ
state_words number = if number == 0 then codes "all binary states" else codes "binary state " ++ decimal number

-- ACCESS TO CVS
abbrev pub cv_name : CvNumber → List ℕ
cv_name cv = codes "CV" ++ decimal cv.number

abbrev pub cv_bit_name : CvNumber → BitPlace → List ℕ
cv_bit_name cv place = codes "bit " ++ decimal place.place ++ codes " of " ++ cv_name cv

abbrev pub cv_write_words : CvNumber → ℕ → List ℕ
cv_write_words cv value = cv_name cv ++ codes " := " ++ decimal value

abbrev pub cv_verify_words : CvNumber → ℕ → List ℕ
cv_verify_words cv value = codes "is " ++ cv_name cv ++ codes " " ++ decimal value ++ codes "?"

abbrev pub cv_bit_write_words : CvNumber → BitPlace → Bool → List ℕ
cv_bit_write_words cv place one = cv_bit_name cv place ++ codes " := " ++ state_word one

abbrev pub cv_bit_verify_words : CvNumber → BitPlace → Bool → List ℕ
cv_bit_verify_words cv place one = codes "is " ++ cv_bit_name cv place ++ codes " " ++ state_word one ++ codes "?"

-- INSTRUCTIONS to locomotive decoders with the address `to`
abbrev pub instruction_words : Address → What → List ℕ
instruction_words to Reset = codes "stop, everything off"
instruction_words to (Speed28 forward speed) = speed28_for to forward speed.bits
instruction_words to (Speed128 forward speed) = speed128_words speed.bits ++ codes ", " ++ direction_words forward
instruction_words to (Functions functions) = group_words functions
instruction_words to (BinaryState state on) = state_words state.number ++ codes " " ++ switch_word on
instruction_words to (CvWrite cv value) = cv_write_words cv value
instruction_words to (CvVerify cv value) = cv_verify_words cv value
instruction_words to (CvBitWrite cv place one) = cv_bit_write_words cv place one
instruction_words to (CvBitVerify cv place one) = cv_bit_verify_words cv place one

-- ACCESSORIES
-- the turnout of an output. Turnouts are counted from the first pair of outputs of board 1.
abbrev pub turnout_words : ℕ → ℕ → List ℕ
turnout_words board output =
    if board == 0 then []
    else if board == 511 then codes ", all boards"
    else codes ", turnout " ++ decimal (4 * (board - 1) + output / 2 + 1)

abbrev pub accessory_words : Board → Output → Bool → List ℕ
accessory_words board output on =
    codes "board " ++ decimal board.number ++ codes ", output " ++ decimal output.number ++ codes " " ++ switch_word on
    ++ turnout_words board.number output.number

abbrev pub signal_name : ℕ → List ℕ
signal_name address = if address == 2047 then codes "all signals" else codes "signal " ++ decimal address

-- SERVICE PACKETS
abbrev pub service_words : ServicePacket → List ℕ
service_words (Write cv value) = cv_write_words cv value
service_words (Verify cv value) = cv_verify_words cv value
service_words (BitWrite cv place one) = cv_bit_write_words cv place one
service_words (BitVerify cv place one) = cv_bit_verify_words cv place one
