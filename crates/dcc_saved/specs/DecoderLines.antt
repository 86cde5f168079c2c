-- The lines of a decoder text. The definition of a line has three parts: the possible values of the
-- line, a rule that parses its words, and a rule that writes its words. The result is the first
-- error from left to right. If a word must be a number, the error P11 comes before the error of a
-- number that is out of range. The error P10 of a number that is out of order comes last.
use Rattle.std.specs.Prelude.{◌≡◌, zero, suc, ℕ, ◌+◌, ◌^◌, ◌/◌, ◌%◌, ◌<◌, ◌==◌, nat_le, nat_lt, true, List, [], ◌∷◌}
use Rattle.std.specs.Prelude.{◌++◌}
use Rattle.std.specs.Prelude.{codes, Option, None, Some, Result, Ok, Err, if◌then◌else◌}
use Rattle.std.specs.Fmt.{decimal}
use Rattle.hex.specs.Hex.{encode_lower}
use Rattle.dcc_packet.specs.declared.address.Address.{Address}
use Rattle.dcc_packet.specs.declared.packet.Packet.{Packet}
use Rattle.dcc_packet.specs.declared.fault.PacketFault.{PacketFault}
use Rattle.dcc_packet.specs.declared.fault.PacketFault.TheVariants as faults
use Rattle.dcc_packet.specs.Bits.{is_one}
use Rattle.dcc_packet.specs.Spelling.{spelling}
use Rattle.dcc_packet.specs.Words.{Word, is_word}
use Rattle.dcc_packet.specs.LineWords.{◌>>=◌, small_number, address, hex_frame}
use Rattle.dcc_packet.specs.Values.{output_of}
use Rattle.dcc_packet.specs.declared.fields.Direction.{Direction}
use Rattle.dcc_packet.specs.declared.fields.Bit.{Bit}
use Rattle.dcc_packet.specs.Fields.{FieldOf, one_word, both, whole, word_and_rest, no_more_words}
use Rattle.dcc_packet.specs.Forms.{FormOf, RowOf, row, whole_by, written_by}
use Rattle.dcc_packet.specs.LineFields.{no_fields, direction_field, bit_field, small_field, board_field, cv_field}
use Rattle.dcc_regs.specs.declared.register.Who.TheVariants as who
use Rattle.dcc_regs.specs.declared.register.Speed.{Speed}
use Rattle.dcc_regs.specs.declared.register.Speed.TheVariants as speeds
use Rattle.dcc_regs.specs.Loco.{is_speed, is_pending_for}
use Rattle.dcc_saved.specs.declared.decoder_line.Head.{Head}
use Rattle.dcc_saved.specs.declared.decoder_line.Head.TheVariants as heads
use Rattle.dcc_saved.specs.declared.decoder_line.Version.{Version}
use Rattle.dcc_saved.specs.declared.decoder_line.Version.TheVariants as versions
use Rattle.dcc_saved.specs.declared.decoder_line.LocoLine.{LocoLine}
use Rattle.dcc_saved.specs.declared.decoder_line.LocoLine.TheVariants as behind
use Rattle.dcc_saved.specs.declared.decoder_line.Numbered.{Numbered}
use Rattle.dcc_saved.specs.declared.decoder_line.Numbered.TheVariants as kinds
use Rattle.dcc_saved.specs.Lines.{LineOf}
use Rattle.dcc_saved.specs.Numbered.{name_of, end_of}
use Rattle.dcc_saved.specs.PendingWrite.{pending_write}
use Rattle.dcc_saved.specs.PossibleLines.{IsPossibleHead, IsSoundLine}
use Rattle.dcc_saved.specs.declared.decoder_fields.SavedSpeed.{SavedSpeed}
use Rattle.dcc_packet.specs.LineWords.{address_word}
use Rattle.dcc_regs.specs.Addresses.{is_active}
use Rattle.dcc_saved.specs.declared.decoder_fields.OwnAddress.{OwnAddress}
use Rattle.dcc_saved.specs.declared.decoder_fields.OwnBoard.{OwnBoard}

-- `Ok` if `word` is the keyword `name`, otherwise the error P10
abbrev pub keyword : List ℕ → Word → Result (Unit {0}) PacketFault
keyword name word = if is_word word name then Ok tt else Err faults.Word

-- a line that consists of the keyword `name` and the field `field`
abbrev pub keyed : {A : Type 0} → List ℕ → FieldOf A → LineOf A
keyed name field = record {
  Fits = field.Fits;
  read = λ line. do
    key ← word_and_rest (keyword name) line
    whole field key.1;
  written = λ x. name ∷ field.written x;
}

-- `Ok` if `n` is at least `least`, otherwise the error P10. The numbers of a line must be in
-- ascending order.
abbrev pub in_order : ℕ → ℕ → Result (Unit {0}) PacketFault
in_order least n = if nat_lt n least then Err faults.Word else Ok tt

-- the version in a word VERSION, 1 or 2
abbrev pub version_number : Word → Result Version PacketFault
version_number word =
    if is_word word (codes "1") then Ok versions.One
    else if is_word word (codes "2") then Ok versions.Two
    else Err faults.Word

abbrev pub version_word : Version → Word
version_word versions.One = codes "1"
version_word versions.Two = codes "2"

-- the field VERSION of the line `dcc-decoders VERSION`
abbrev pub version_field : FieldOf Version
version_field = one_word version_number version_word

abbrev pub version_line : LineOf Version
version_line = keyed (codes "dcc-decoders") version_field

abbrev pub some_address : Word → Result (Option Address) PacketFault
some_address word = do
  to ← address word
  Ok (Some to)

-- the word ADDRESS of an active address
abbrev pub own_address_word : Option Address → Word
own_address_word None = codes "none"
own_address_word (Some address) = address_word address

-- the active address in a word ADDRESS. The word is `none`, or `s` or `l` and then a number.
abbrev pub own_address : Word → Result (Option Address) PacketFault
own_address word =
    if is_word word (codes "none") then Ok None
    else if is_word word (codes "all") then Err faults.Word
    else some_address word

abbrev pub own_address_of : Word → Result OwnAddress PacketFault
own_address_of word = do
  address ← own_address word
  Ok (record { address = address })

-- the field ADDRESS: the active address of a locomotive decoder
abbrev pub own_address_field : FieldOf OwnAddress
own_address_field =
    record {
      Fits = λ own. is_active own.address ≡ true;
      read = λ words. word_and_rest own_address_of words;
      written = λ own. own_address_word own.address ∷ [];
    }

-- the field BOARD: the number of an accessory decoder, from 0 to 510. The number 511 is the
-- broadcast address, and has an error.
abbrev pub own_board_field : FieldOf OwnBoard
own_board_field = record {
  Fits = λ own. nat_le own.board.number 510 ≡ true;
  read = λ words. do
    board ← board_field.read words
    if board.0.number == 511 then Err faults.Board else Ok (record { board = board.0 }, board.1);
  written = λ own. board_field.written own.board;
}

-- the form `loco ADDRESS`
abbrev pub loco_head_form : FormOf Head OwnAddress
loco_head_form =
    record {
      keyword = codes "loco";
      says = λ own. heads.Decoder (who.Loco own.address);
      said = elim [ heads.Decoder (who.Loco address) ↦ Some (record { address = address }) | head ↦ None ];
    }

-- the form `board BOARD`
abbrev pub board_form : FormOf Head OwnBoard
board_form =
    record {
      keyword = codes "board";
      says = λ own. heads.Decoder (who.Board own.board);
      said = elim [ heads.Decoder (who.Board board) ↦ Some (record { board = board }) | head ↦ None ];
    }

-- the form `end`
abbrev pub end_form : FormOf Head (Unit {0})
end_form =
    record { keyword = codes "end"; says = λ none. heads.End; said = elim [ heads.End ↦ Some tt | head ↦ None ] }

-- the table of the forms `loco`, `board` and `end`: the first line of each decoder, and the last
-- line of a decoder text
abbrev pub head_forms : List (RowOf Head)
head_forms = row own_address_field loco_head_form ∷ row own_board_field board_form ∷ row no_fields end_form ∷ []

unfoldable pub head_of : List Word → Result Head PacketFault
head_of [] = Err faults.Word
head_of (word ∷ rest) = whole_by head_forms word rest

-- the line `loco ADDRESS`, `board BOARD` or `end`
abbrev pub head_line : LineOf Head
head_line = record { Fits = IsPossibleHead; read = head_of; written = written_by head_forms }

-- the speed step in `word`, from 1 to `last`
abbrev pub parse_step : ℕ → Word → Result ℕ PacketFault
parse_step last word = do
  n ← small_number word
  if nat_lt n 1 then Err faults.State else if nat_lt last n then Err faults.State else Ok n

abbrev pub step_words : (ℕ → Speed) → ℕ → List Word → Result (Speed × List Word) PacketFault
step_words step last rest = do
  n ← word_and_rest (parse_step last) rest
  Ok (step n.0, n.1)

abbrev pub speed_after : Word → List Word → Result (Speed × List Word) PacketFault
speed_after word rest =
    if is_word word (codes "stop") then Ok (speeds.Stop, rest)
    else if is_word word (codes "emergency") then Ok (speeds.Emergency, rest)
    else if is_word word (codes "14") then step_words (λ n. speeds.Step14 n) 14 rest
    else if is_word word (codes "28") then step_words (λ n. speeds.Step28 n) 28 rest
    else if is_word word (codes "126") then step_words (λ n. speeds.Step126 n) 126 rest
    else Err faults.Word

-- the speed that the first words of a list mean, and the words after these words. A speed is
-- `stop`, `emergency`, `14 STEP`, `28 STEP` or `126 STEP`.
abbrev pub speed_of : List Word → Result (Speed × List Word) PacketFault
speed_of [] = Err faults.Word
speed_of (word ∷ rest) = speed_after word rest

abbrev pub speed_words : Speed → List Word
speed_words speeds.Stop = codes "stop" ∷ []
speed_words speeds.Emergency = codes "emergency" ∷ []
speed_words (speeds.Step14 n) = codes "14" ∷ decimal n ∷ []
speed_words (speeds.Step28 n) = codes "28" ∷ decimal n ∷ []
speed_words (speeds.Step126 n) = codes "126" ∷ decimal n ∷ []

abbrev pub saved_speed : List Word → Result (SavedSpeed × List Word) PacketFault
saved_speed words = do
  speed ← speed_of words
  Ok (record { speed = speed.0 }, speed.1)

-- the field SPEED, which has one or two words
abbrev pub speed_field : FieldOf SavedSpeed
speed_field =
    record {
      Fits = λ saved. is_speed saved.speed ≡ true;
      read = λ words. saved_speed words;
      written = λ saved. speed_words saved.speed;
    }

-- the line `speed SPEED f|r`
abbrev pub speed_line : LineOf (SavedSpeed × Direction)
speed_line = keyed (codes "speed") (both speed_field direction_field)

-- the number of a function in `word`, from 0 to 68
abbrev pub function_number : Word → Result ℕ PacketFault
function_number word = do
  n ← small_number word
  if nat_lt 68 n then Err faults.State else Ok n

-- the number of a binary state in `word`, from 1 to 127
abbrev pub binary_state : Word → Result ℕ PacketFault
binary_state word = do
  n ← small_number word
  if nat_lt n 1 then Err faults.StateNumber else if nat_lt 127 n then Err faults.StateNumber else Ok n

abbrev pub out_number : Word → Result ℕ PacketFault
out_number word = do
  output ← small_number word >>= output_of
  Ok output.number

abbrev pub number_word_of : Numbered → Word → Result ℕ PacketFault
number_word_of kinds.Function word = function_number word
number_word_of kinds.State word = binary_state word
number_word_of kinds.Out word = out_number word

-- a number whose bit n is one if a word of the list is the number n. The numbers in the words must
-- be in ascending order, and the first of them must be at least `least`. `kind` says which numbers
-- are possible.
abbrev pub numbers_from : Numbered → ℕ → List Word → Result ℕ PacketFault
numbers_from kind least [] = Ok 0
numbers_from kind least (word ∷ rest) = do
  n ← number_word_of kind word
  ordered ← in_order least n
  others ← numbers_from kind (n + 1) rest
  Ok (2 ^ n + others)

-- the words of all numbers whose bits in `bits` are one. The lowest bit stands for the number `n`,
-- the next bit for `n + 1`, and so on. The second argument is the number of bits.
unfoldable pub numbers_on : ℕ → ℕ → ℕ → List Word
numbers_on n zero bits = []
numbers_on n (suc more) bits =
    (if is_one bits 0 then decimal n ∷ [] else []) ++ numbers_on (n + 1) more (bits / 2)

unfoldable pub numbers_of : Numbered → List Word → Result ℕ PacketFault
numbers_of kind line = do
  key ← word_and_rest (keyword (name_of kind)) line
  numbers_from kind 0 key.1

-- the line `on FUNCTION ..`, `states STATE ..` or `out OUTPUT ..`, depending on `kind`. The value
-- of the line is a number whose bit n is one if the number n is in the line. There is no binary
-- state 0.
abbrev pub numbers_line : Numbered → LineOf ℕ
numbers_line kind = record {
  Fits = λ bits. (bits < 2 ^ end_of kind) × (kind ≡ kinds.State → bits % 2 ≡ 0);
  read = numbers_of kind;
  written = λ bits. name_of kind ∷ numbers_on 0 (end_of kind) bits;
}

abbrev pub framed_write : Option Address → Word → Result (Option Packet) PacketFault
framed_write active word = do
  frame ← hex_frame word
  packet ← pending_write active frame
  Ok (Some packet)

-- the packet in a word PACKET. The result is `None` for the word `none`. Any other word has the
-- frame of a CV write, and the result is this write. A decoder with the address `active` must be
-- able to have this write as its pending write.
abbrev pub pending_word : Option Address → Word → Result (Option Packet) PacketFault
pending_word active word = if is_word word (codes "none") then Ok None else framed_write active word

abbrev pub pending_text : Option Packet → Word
pending_text None = codes "none"
pending_text (Some packet) = encode_lower (spelling packet)

-- the field PACKET: `none`, or a CV write that can be pending in a decoder with the address
-- `active`
abbrev pub pending_field : Option Address → FieldOf (Option Packet)
pending_field active = record {
  Fits = λ pending. is_pending_for active pending ≡ true;
  read = λ words. word_and_rest (pending_word active) words;
  written = λ pending. pending_text pending ∷ [];
}

-- the line `pending PACKET` of a decoder with the address `active`
abbrev pub pending_line : Option Address → LineOf (Option Packet)
pending_line active = keyed (codes "pending") (pending_field active)

-- the CV and the value that the words `CV VALUE` mean. The number of the CV must be at least
-- `least`.
abbrev pub cv_words : ℕ → List Word → Result LocoLine PacketFault
cv_words least rest = do
  cv ← cv_field.read rest
  ordered ← in_order least cv.0.number
  value ← word_and_rest small_number cv.1
  end ← no_more_words value.1
  Ok (behind.Cv cv.0 value.0)

abbrev pub head_behind : Word → List Word → Result LocoLine PacketFault
head_behind word rest = do
  head ← whole_by head_forms word rest
  Ok (behind.Head head)

abbrev pub loco_line_after : ℕ → Word → List Word → Result LocoLine PacketFault
loco_line_after least word rest = if is_word word (codes "cv") then cv_words least rest else head_behind word rest

unfoldable pub loco_line_of : ℕ → List Word → Result LocoLine PacketFault
loco_line_of least [] = Err faults.Word
loco_line_of least (word ∷ rest) = loco_line_after least word rest

abbrev pub cv_written : ℕ → ℕ → List Word
cv_written cv value = codes "cv" ∷ decimal cv ∷ decimal value ∷ []

abbrev pub loco_line_written : LocoLine → List Word
loco_line_written (behind.Cv cv value) = cv_written cv.number value
loco_line_written (behind.Head head) = written_by head_forms head

-- the line `cv CV VALUE` with a CV number of at least `least`, or the line after the lines of CVs
abbrev pub loco_line : ℕ → LineOf LocoLine
loco_line least = record { Fits = IsSoundLine least; read = loco_line_of least; written = loco_line_written }

-- four values of one type
abbrev pub Four : Type 0 → Type 0
Four A = A × (A × (A × A))

abbrev pub four : {A : Type 0} → FieldOf A → FieldOf (Four A)
four field = both field (both field (both field field))

abbrev pub listed : {A : Type 0} → Four A → List A
listed x = x.0 ∷ x.1.0 ∷ x.1.1.0 ∷ x.1.1.1 ∷ []

-- the line `position SIDE SIDE SIDE SIDE`
abbrev pub positions_line : LineOf (Four Bit)
positions_line = keyed (codes "position") (four bit_field)

-- the line `aspect ASPECT ASPECT ASPECT ASPECT`
abbrev pub aspects_line : LineOf (Four ℕ)
aspects_line = keyed (codes "aspect") (four small_field)
