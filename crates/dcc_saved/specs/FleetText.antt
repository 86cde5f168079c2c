-- The decoder text of a fleet. The text depends only on the identities and the registers of the
-- decoders.
use Rattle.std.specs.Prelude.{zero, suc, ℕ, ◌+◌, ◌^◌, ◌==◌, Bool, true, List, [], ◌++◌, codes, Option, None, Some}
use Rattle.std.specs.Prelude.{if◌then◌else◌}
use Rattle.std.specs.List.{flat_map}
use Rattle.dcc_packet.specs.declared.address.Address.{Address}
use Rattle.dcc_packet.specs.declared.packet.Packet.{Packet}
use Rattle.dcc_packet.specs.Written.{words_in_line}
use Rattle.dcc_regs.specs.declared.register.Who.{Who}
use Rattle.dcc_regs.specs.declared.register.Who.TheVariants as who
use Rattle.dcc_regs.specs.declared.register.Speed.{Speed}
use Rattle.dcc_regs.specs.declared.register.Speed.TheVariants.{Stop}
use Rattle.dcc_regs.specs.declared.register.Register.TheVariants as registers
use Rattle.dcc_regs.specs.declared.register.Value.{Value}
use Rattle.dcc_regs.specs.declared.register.Value.TheVariants as values
use Rattle.dcc_regs.specs.Loco.{holds_one, cv_held}
use Rattle.dcc_regs.specs.Result.{RegisterMap}
use Rattle.dcc_saved.specs.declared.decoder_line.Head.TheVariants as heads
use Rattle.dcc_saved.specs.declared.decoder_line.Numbered.{Numbered}
use Rattle.dcc_saved.specs.declared.decoder_line.Numbered.TheVariants as kinds
use Rattle.dcc_saved.specs.declared.decoder_line.Version.TheVariants as versions
use Rattle.dcc_saved.specs.Lines.{line_text}
use Rattle.dcc_saved.specs.Numbered.{end_of, register_of}
use Rattle.dcc_saved.specs.DecoderLines.{Four, version_line, head_line, speed_line, numbers_line, pending_line}
use Rattle.dcc_saved.specs.DecoderLines.{cv_written}
use Rattle.dcc_saved.specs.DecoderLines.{positions_line, aspects_line}

-- the speed that a register holds. If the register holds no speed, the result is `Stop`.
abbrev pub speed_held : Option Value → Speed
speed_held (Some (values.Speed speed)) = speed
speed_held held = Stop

abbrev pub forward_held : Option Value → Bool
forward_held (Some (values.Forward forward)) = forward
forward_held held = true

abbrev pub pending_held : Option Value → Option Packet
pending_held (Some (values.Pending pending)) = pending
pending_held held = None

abbrev pub number_held : Option Value → ℕ
number_held (Some (values.Number n)) = n
number_held held = 0

-- the number whose bit k is one if and only if k is below `n` and `on` returns true for k
unfoldable pub bits_on : (ℕ → Bool) → ℕ → ℕ
bits_on on zero = 0
bits_on on (suc n) = (if on n then 2 ^ n else 0) + bits_on on n

-- the registers of kind `kind` in `m` as a number. Bit n of the number is one if register n is on.
abbrev pub numbers_held : Numbered → RegisterMap → ℕ
numbers_held kind m = bits_on (λ n. holds_one (m (register_of kind n))) (end_of kind)

-- the text of the line of the speed and the direction in `m`
abbrev pub written_speed : RegisterMap → List ℕ
written_speed m =
    line_text speed_line
    (record { speed = speed_held (m registers.Speed) }, record { forward = forward_held (m registers.Direction) })

-- the text of the line with all registers of kind `kind` that are on in `m`: functions, binary
-- states or outputs
abbrev pub written_numbers : Numbered → RegisterMap → List ℕ
written_numbers kind m = line_text (numbers_line kind) (numbers_held kind m)

-- the text of the line of the pending write in `m`, for a decoder with the address `address`
abbrev pub written_pending : Option Address → RegisterMap → List ℕ
written_pending address m = line_text (pending_line address) (pending_held (m registers.Pending))

-- the text of a locomotive decoder from its second line to the line before its CVs. The decoder has
-- the active address `address` and the registers `m`.
abbrev pub before_cvs : Option Address → RegisterMap → List ℕ
before_cvs address m =
    written_speed m
    ++ (written_numbers kinds.Function m ++ (written_numbers kinds.State m ++ written_pending address m))

-- the text of the line of CV `cv` with the value `value`
abbrev pub cv_line : ℕ → ℕ → List ℕ
cv_line cv value = words_in_line (cv_written cv value) ++ codes "\n"

-- the text of the lines of CV1 to CV `n` with the values `cvs`. A CV with the value 0 has no line.
unfoldable pub cvs_text : (ℕ → ℕ) → ℕ → List ℕ
cvs_text cvs zero = []
cvs_text cvs (suc n) = cvs_text cvs n ++ (if cvs (suc n) == 0 then [] else cv_line (suc n) (cvs (suc n)))

-- the values of `each` for 0, 1, 2 and 3
abbrev pub first_four : {A : Type 0} → (ℕ → A) → Four A
first_four each = (each 0, (each 1, (each 2, each 3)))

-- the text of the line with the positions of the four pairs of outputs in `m`
abbrev pub written_positions : RegisterMap → List ℕ
written_positions m =
    line_text positions_line (first_four (λ n. record { one = number_held (m (registers.Position n)) == 1 }))

-- the text of the line with the four aspects in `m`
abbrev pub written_aspects : RegisterMap → List ℕ
written_aspects m = line_text aspects_line (first_four (λ n. number_held (m (registers.Aspect n))))

-- the text of a decoder with the registers `m`, without its first line
abbrev pub lines_behind : Who → RegisterMap → List ℕ
lines_behind (who.Loco address) m = before_cvs address m ++ cvs_text (cv_held m) 1024
lines_behind (who.Board board) m = written_numbers kinds.Out m ++ (written_positions m ++ written_aspects m)

-- the text of a decoder with the identity `decoder` and the registers `m`
abbrev pub written_decoder : Who → RegisterMap → List ℕ
written_decoder decoder m = line_text head_line (heads.Decoder decoder) ++ lines_behind decoder m

abbrev pub text_of : Who × RegisterMap → List ℕ
text_of decoder = written_decoder decoder.0 decoder.1

-- the decoder text of the fleet `fleet`, in version 2
abbrev pub fleet_text : List (Who × RegisterMap) → List ℕ
fleet_text fleet = line_text version_line versions.Two ++ (flat_map text_of fleet ++ line_text head_line heads.End)
