-- The fields of packet lines.
use Rattle.std.specs.Prelude.{ℕ, ◌<◌, List, [], ◌∷◌, Result, Ok}
use Rattle.std.specs.Fmt.{decimal}
use Rattle.dcc_packet.specs.declared.accessory.Board.{Board}
use Rattle.dcc_packet.specs.declared.accessory.Output.{Output}
use Rattle.dcc_packet.specs.declared.accessory.SignalAddress.{SignalAddress}
use Rattle.dcc_packet.specs.declared.address.Address.{Address}
use Rattle.dcc_packet.specs.declared.cv.BitPlace.{BitPlace}
use Rattle.dcc_packet.specs.declared.cv.CvNumber.{CvNumber}
use Rattle.dcc_packet.specs.declared.fault.PacketFault.{PacketFault}
use Rattle.dcc_packet.specs.declared.fields.Direction.{Direction}
use Rattle.dcc_packet.specs.declared.fields.Bit.{Bit}
use Rattle.dcc_packet.specs.declared.fields.Switch.{Switch}
use Rattle.dcc_packet.specs.declared.functions.GroupBits.{GroupBits}
use Rattle.dcc_packet.specs.declared.speed.SpeedBits28.{SpeedBits28}
use Rattle.dcc_packet.specs.declared.speed.SpeedBits128.{SpeedBits128}
use Rattle.dcc_packet.specs.declared.state.StateNumber.{StateNumber}
use Rattle.dcc_packet.specs.Fields.{FieldOf, one_word, one_number, word_and_rest}
use Rattle.dcc_packet.specs.LineWords.{◌>>=◌, address, address_word, number, small_number, switch, switch_word}
use Rattle.dcc_packet.specs.LineWords.{direction, direction_word, bit_state, state_word, group, group_word}
use Rattle.dcc_packet.specs.Values.{board_of, output_of, signal_of, speed28_of, speed128_of, functions_of, state_of}
use Rattle.dcc_packet.specs.Values.{cv_of, place_of}
use Rattle.dcc_packet.specs.Words.{Word}

-- the field without words, for a form that has only a keyword
abbrev pub no_fields : FieldOf (Unit {0})
no_fields = record { Fits = λ x. Unit {0}; read = λ words. Ok (tt, words); written = λ x. [] }

-- the field TO: an address of locomotive decoders
abbrev pub address_field : FieldOf Address
address_field = one_word address address_word

-- the field BOARD: the number of an accessory decoder
abbrev pub board_field : FieldOf Board
board_field = one_number number board_of (λ board. board.number)

-- the field OUTPUT: the number of an output of an accessory decoder
abbrev pub output_field : FieldOf Output
output_field = one_number small_number output_of (λ output. output.number)

-- the field ADDRESS: the address of a signal
abbrev pub signal_field : FieldOf SignalAddress
signal_field = one_number number signal_of (λ address. address.number)

abbrev pub switch_of : Word → Result Switch PacketFault
switch_of word = do
  on ← switch word
  Ok (record { on = on })

-- the field `on|off`
abbrev pub switch_field : FieldOf Switch
switch_field = one_word switch_of (λ switch. switch_word switch.on)

abbrev pub direction_of : Word → Result Direction PacketFault
direction_of word = do
  forward ← direction word
  Ok (record { forward = forward })

-- the field `f|r`: f for forward, r for reverse
abbrev pub direction_field : FieldOf Direction
direction_field = one_word direction_of (λ direction. direction_word direction.forward)

abbrev pub bit_word_of : Word → Result Bit PacketFault
bit_word_of word = do
  one ← bit_state word
  Ok (record { one = one })

-- the field `0|1`: the value of a bit of a CV
abbrev pub bit_field : FieldOf Bit
bit_field = one_word bit_word_of (λ side. state_word side.one)

-- the fields ASPECT and VALUE, each a number up to 255
abbrev pub small_field : FieldOf ℕ
small_field =
    record {
      Fits = λ n. n < 256;
      read = λ words. word_and_rest small_number words;
      written = λ n. decimal n ∷ [];
    }

-- a field of one word, which is a number up to 65535
abbrev pub number_field : FieldOf ℕ
number_field =
    record {
      Fits = λ n. n < 65536;
      read = λ words. word_and_rest number words;
      written = λ n. decimal n ∷ [];
    }

-- the field BITS of the form `speed28`
abbrev pub speed28_field : FieldOf SpeedBits28
speed28_field = one_number small_number speed28_of (λ speed. speed.bits)

-- the field BITS of the form `speed128`
abbrev pub speed128_field : FieldOf SpeedBits128
speed128_field = one_number small_number speed128_of (λ speed. speed.bits)

abbrev pub functions_of_words : List Word → Result (GroupBits × List Word) PacketFault
functions_of_words words = do
  named ← word_and_rest group words
  word_and_rest (λ word. small_number word >>= functions_of named.0) named.1

-- the two fields GROUP and BITS of the form `functions`
abbrev pub functions_field : FieldOf GroupBits
functions_field =
    record {
      Fits = λ functions. Unit {0};
      read = λ words. functions_of_words words;
      written = λ functions. group_word functions.group ∷ decimal functions.bits ∷ [];
    }

-- the field NUMBER: the number of a binary state
abbrev pub state_field : FieldOf StateNumber
state_field = one_number small_number state_of (λ state. state.number)

-- the field CV: the number of a CV
abbrev pub cv_field : FieldOf CvNumber
cv_field = one_number number cv_of (λ cv. cv.number)

-- the field PLACE: the place of a bit in a CV
abbrev pub place_field : FieldOf BitPlace
place_field = one_number small_number place_of (λ place. place.place)
