-- The words of a packet line say a frame.
use Rattle.std.proofs.Common.{◌≡◌, ℕ, ◌<◌, ◌==◌, ◌||◌, Bool, true, false, List, [], ◌∷◌, length, Result, Ok, Err}
use Rattle.std.proofs.Common.{if◌then◌else◌, refl, ap, subst, arith, codes, nat_le}
use Rattle.std.specs.Prelude.{nat_lt}
use Rattle.std.proofs.lemmas.Bool.{eqb-true}
use Rattle.hex.specs.Hex.{IsBytes, decode_of}
use Rattle.hex.specs.declared.error.FromHexError.{FromHexError}
use Rattle.hex.proofs.HexLemmas.{decode_of-ok}
use Rattle.dcc_wire.specs.Frames.{IsFrame, xor_of}
use Rattle.dcc_wire.specs.FrameOf.{frame_of}
use Rattle.dcc_wire.specs.declared.frame.FrameFault.TheVariants.{Length, XorNotZero}
use Rattle.dcc_packet.specs.declared.fault.PacketFault.{PacketFault}
use Rattle.dcc_packet.specs.declared.fault.PacketFault.TheVariants as faults
use Rattle.dcc_packet.specs.declared.fields.CvAccess.{CvAccess}
use Rattle.dcc_packet.specs.declared.packet.Packet.{Packet}
use Rattle.dcc_packet.specs.Fields.{FieldOf, both, no_more_words, word_and_rest}
use Rattle.dcc_packet.specs.Forms.{FormOf, RowOf, row, read_by, read_line_by, whole_by}
use Rattle.dcc_packet.specs.InstructionForms.{reset_form, speed28_form, speed128_form, functions_form, state_form}
use Rattle.dcc_packet.specs.InstructionForms.{cv_write_form, cv_verify_form, cv_bit_write_form, cv_bit_verify_form}
use Rattle.dcc_packet.specs.InstructionForms.{cv_access_forms, cv_access_field, cv_access_form, instruction_forms}
use Rattle.dcc_packet.specs.InstructionForms.{instruction_field}
use Rattle.dcc_packet.specs.Line.{frame, spelling_or_fault, frame_of_words}
use Rattle.dcc_packet.specs.LineFields.{no_fields, address_field, direction_field, speed28_field, speed128_field}
use Rattle.dcc_packet.specs.LineFields.{functions_field, state_field, switch_field, cv_field, small_field, place_field}
use Rattle.dcc_packet.specs.LineFields.{bit_field, board_field, output_field, signal_field}
use Rattle.dcc_packet.specs.LineLaws.{LinesSayFrames}
use Rattle.dcc_packet.specs.LineWords.{◌>>=◌, number, small_number, hex_frame, framed_bytes, frame_or_fault}
use Rattle.dcc_packet.specs.PacketForms.{packet_forms, idle_form, loco_form, accessory_form, signal_form}
use Rattle.dcc_packet.specs.Spelling.{BytesFit, ValueFits, spelling}
use Rattle.dcc_packet.specs.Words.{Word, is_word}
use Rattle.dcc_packet.proofs.FrameSpellings.{spellings_are_frames}

-- if two steps give a value, the first gives one and the second makes the value of it
both_steps : {A B : Type 0} (first : Result A PacketFault) (second : A → Result B PacketFault) (y : B)
    → first >>= second ≡ Ok y → (x : A) × (first ≡ Ok x) × (second x ≡ Ok y)
both_steps (Ok x) second y e = (x, refl, e)
both_steps (Err fault) second y e = absurd (cc)

-- what is read is one value and the words after it
same_value : {A : Type 0} (one other : A × List Word)
    → (◌≡◌ {A = Result (A × List Word) PacketFault} (Ok one) (Ok other))
    → one.0 ≡ other.0
same_value one other e = let same : one ≡ other = cc e in ap (λ read. read.0) same

-- if a choice gives a value, one of its sides does
choice_gives : {A P : Type 0} (b : Bool) (one other : Result A PacketFault) (y : A) → (one ≡ Ok y → P)
    → (other ≡ Ok y → P)
    → (if b then one else other) ≡ Ok y → P
choice_gives true one other y left right e = left e
choice_gives false one other y left right e = right e

word_gives : {A : Type 0} (P : A → Type 0) (rule : Word → Result A PacketFault)
    → ((word : Word) (x : A) → rule word ≡ Ok x → P x)
    → (words rest : List Word) (x : A) → word_and_rest rule words ≡ Ok (x, rest) → P x
word_gives P rule fact [] rest x e = absurd (cc)
word_gives P rule fact (word ∷ words) rest x e =
    let steps = both_steps (rule word) (λ x. Ok (x, words)) (x, rest) e in
    let same = same_value (steps.0, words) (x, rest) steps.2 in
    subst P same (fact word steps.0 steps.1)

second_gives : {A B : Type 0} (P : B → Type 0) (first : FieldOf A) (second : FieldOf B)
    → ((words rest : List Word) (y : B) → second.read words ≡ Ok (y, rest) → P y)
    → (words rest : List Word) (x : A × B) → (both first second).read words ≡ Ok (x, rest) → P x.1
second_gives {A} {B} P first second fact words rest x e =
    let one = both_steps (first.read words) (λ x. second.read x.1 >>= (λ y. Ok ((x.0, y.0), y.1))) (x, rest) e in
    let two = both_steps (second.read one.0.1) (λ y. Ok ((one.0.0, y.0), y.1)) (x, rest) one.2 in
    let same = ap (λ (x : A × B). x.1) (same_value ((one.0.0, two.0.0), two.0.1) (x, rest) two.2) in
    subst P same (fact one.0.1 two.0.1 two.0.0 two.1)

row_gives : {A B : Type 0} (P : A → Type 0) (fields : FieldOf B) (form : FormOf A B)
    → ((words rest : List Word) (x : B) → fields.read words ≡ Ok (x, rest) → P (form.says x))
    → (words rest : List Word) (value : A) → (row fields form).read words ≡ Ok (value, rest) → P value
row_gives P fields form fact words rest value e =
    let steps = both_steps (fields.read words) (λ x. Ok (form.says x.0, x.1)) (value, rest) e in
    let same = same_value (form.says steps.0.0, steps.0.1) (value, rest) steps.2 in
    subst P same (fact words steps.0.1 steps.0.0 steps.1)

-- each value that is read in these forms has a fact
abbrev AllGive : {A : Type 0} → (A → Type 0) → List (RowOf A) → Type 0
AllGive P [] = Unit {0}
AllGive P (form ∷ forms) =
    ((words rest : List Word) (value : _) → form.read words ≡ Ok (value, rest) → P value) × AllGive P forms

forms_give : {A : Type 0} (P : A → Type 0) (forms : List (RowOf A)) → AllGive P forms
    → (word : Word) (words rest : List Word) (value : A) → read_by forms word words ≡ Ok (value, rest) → P value
forms_give P [] all word words rest value e = absurd (cc)
forms_give P (form ∷ forms) all word words rest value e =
    choice_gives (is_word word form.keyword) (form.read words) (read_by forms word words) (value, rest)
    (all.0 words rest value) (forms_give P forms all.1 word words rest value) e

line_gives : {A : Type 0} (P : A → Type 0) (forms : List (RowOf A)) → AllGive P forms
    → (words rest : List Word) (value : A) → read_line_by forms words ≡ Ok (value, rest) → P value
line_gives P forms all [] rest value e = absurd (cc)
line_gives P forms all (word ∷ words) rest value e = forms_give P forms all word words rest value e

if_small : (m n : ℕ) → (if nat_le m 255 then Ok m else Err faults.Number) ≡ Ok n → n < 256
if_small m n e = grind arith

small_gives : (words rest : List Word) (n : ℕ) → small_field.read words ≡ Ok (n, rest) → n < 256
small_gives =
    word_gives (λ n. n < 256) small_number
    (λ word n e. let steps = both_steps (number word) (λ m. if nat_le m 255 then Ok m else Err faults.Number) n e in
    if_small steps.0 n steps.2)

cv_accesses_give : AllGive ValueFits cv_access_forms
cv_accesses_give = (
  row_gives ValueFits (both cv_field small_field) cv_write_form
      (second_gives (λ n. n < 256) cv_field small_field small_gives),
  (
    row_gives ValueFits (both cv_field small_field) cv_verify_form
        (second_gives (λ n. n < 256) cv_field small_field small_gives),
    (
      row_gives ValueFits (both cv_field (both place_field bit_field)) cv_bit_write_form (λ words rest x e. tt),
      (row_gives ValueFits (both cv_field (both place_field bit_field)) cv_bit_verify_form (λ words rest x e. tt), tt),
    ),
  ),
)

access_gives : (words rest : List Word) (access : CvAccess) → cv_access_field.read words ≡ Ok (access, rest)
    → ValueFits access.what
access_gives words rest access e =
    let steps = both_steps (read_line_by cv_access_forms words) (λ x. Ok (record { what = x.0 }, x.1)) (access, rest) e
    in
    let same = same_value (record { what = steps.0.0 }, steps.0.1) (access, rest) steps.2 in
    subst (λ (access : CvAccess). ValueFits access.what) same
    (line_gives ValueFits cv_access_forms cv_accesses_give words steps.0.1 steps.0.0 steps.1)

instructions_give : AllGive ValueFits instruction_forms
instructions_give = (
  row_gives ValueFits no_fields reset_form (λ words rest x e. tt),
  (
    row_gives ValueFits (both direction_field speed28_field) speed28_form (λ words rest x e. tt),
    (
      row_gives ValueFits (both direction_field speed128_field) speed128_form (λ words rest x e. tt),
      (
        row_gives ValueFits functions_field functions_form (λ words rest x e. tt),
        (
          row_gives ValueFits (both state_field switch_field) state_form (λ words rest x e. tt),
          (row_gives ValueFits cv_access_field cv_access_form access_gives, tt),
        ),
      ),
    ),
  ),
)

packets_give : AllGive BytesFit packet_forms
packets_give = (
  row_gives BytesFit no_fields idle_form (λ words rest x e. tt),
  (
    row_gives BytesFit (both address_field instruction_field) loco_form
        (second_gives ValueFits address_field instruction_field
        (line_gives ValueFits instruction_forms instructions_give)),
    (
      row_gives BytesFit (both board_field (both output_field switch_field)) accessory_form (λ words rest x e. tt),
      (
        row_gives BytesFit (both signal_field small_field) signal_form
            (second_gives (λ n. n < 256) signal_field small_field small_gives),
        tt,
      ),
    ),
  ),
)

spelling_gives : (packet : Result Packet PacketFault) (bytes : List ℕ) → ((p : Packet) → packet ≡ Ok p → BytesFit p)
    → spelling_or_fault packet ≡ Ok bytes → IsFrame bytes
spelling_gives (Ok p) bytes fits e =
    let same : spelling p ≡ bytes = cc e in
    subst IsFrame same (spellings_are_frames p (fits p refl))
spelling_gives (Err fault) bytes fits e = absurd (cc)

whole_gives : (word : Word) (words : List Word) (p : Packet) → whole_by packet_forms word words ≡ Ok p → BytesFit p
whole_gives word words p e =
    let steps = both_steps (read_by packet_forms word words) (λ x. no_more_words x.1 >>= (λ end. Ok x.0)) p e in
    let last = both_steps (no_more_words steps.0.1) (λ end. Ok steps.0.0) p steps.2 in
    let same : steps.0.0 ≡ p = cc (last.2) in
    subst BytesFit same (forms_give BytesFit packet_forms packets_give word words steps.0.1 steps.0.0 steps.1)

-- bytes of which a frame is made
frame_gives : (bytes told : List ℕ) → IsBytes bytes → frame_or_fault (frame_of bytes) ≡ Ok told → IsFrame told
frame_gives bytes told each e =
    go (nat_lt (length bytes) 3) (nat_lt 6 (length bytes)) (xor_of bytes == 0) refl refl refl e
  where
    go : (few many even : Bool) → nat_lt (length bytes) 3 ≡ few → nat_lt 6 (length bytes) ≡ many → (xor_of bytes == 0)
        ≡ even
        → frame_or_fault (if few || many then Err Length else if even then Ok bytes else Err XorNotZero) ≡ Ok told
        → IsFrame told
    go true many even f m x e = absurd (cc)
    go false true even f m x e = absurd (cc)
    go false false false f m x e = absurd (cc)
    go false false true f m x e =
        let same : bytes ≡ told = cc e in
        subst IsFrame same
        (record {
          least = grind (arith, f);
          most = grind (arith, m);
          error_byte = eqb-true (xor_of bytes) 0 x;
          each =
              each;
        })

hex_gives : (word : Word) (bytes : List ℕ) → hex_frame word ≡ Ok bytes → IsFrame bytes
hex_gives word bytes e = go (decode_of word) refl e
  where
    go : (decoded : Result (List ℕ) FromHexError) → decode_of word ≡ decoded → framed_bytes decoded ≡ Ok bytes
        → IsFrame bytes
    go (Ok decoded) is e = frame_gives decoded bytes (decode_of-ok word decoded is).3 e
    go (Err fault) is e = absurd (cc)

hex_line_gives : (words : List Word) (bytes : List ℕ) → frame words ≡ Ok bytes → IsFrame bytes
unfolding frame
hex_line_gives words bytes e =
    let steps = both_steps (word_and_rest hex_frame words) (λ x. no_more_words x.1 >>= (λ end. Ok x.0)) bytes e in
    let last = both_steps (no_more_words steps.0.1) (λ end. Ok steps.0.0) bytes steps.2 in
    let same : steps.0.0 ≡ bytes = cc (last.2) in
    subst IsFrame same (word_gives IsFrame hex_frame hex_gives words steps.0.1 steps.0.0 steps.1)

pub lines_say_frames : LinesSayFrames
unfolding frame_of_words
lines_say_frames [] bytes e = absurd (cc)
lines_say_frames (word ∷ words) bytes e =
    choice_gives (is_word word (codes "frame")) (frame words) (spelling_or_fault (whole_by packet_forms word words))
    bytes
    (hex_line_gives words bytes) (spelling_gives (whole_by packet_forms word words) bytes (whole_gives word words)) e
