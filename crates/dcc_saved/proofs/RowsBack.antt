-- Each line of a decoder is read again.
use Rattle.std.proofs.Common.{◌≡◌, ℕ, ◌≤◌, false, [], ◌∷◌, length, codes, refl, ap, arith, length-append}
use Rattle.std.proofs.lemmas.Bool.{le-ltb}
use Rattle.std.specs.Fmt.{decimal}
use Rattle.dcc_packet.specs.Fields.{both}
use Rattle.dcc_packet.specs.Forms.{AreBack, has_keyword, written_by}
use Rattle.dcc_packet.specs.LineFields.{no_fields, direction_field, bit_field, small_field}
use Rattle.dcc_packet.specs.Words.{is_word}
use Rattle.dcc_packet.proofs.FieldsBack.{both_back}
use Rattle.dcc_packet.proofs.FormsBack.{Found, found, other_word, whole_by_back, row_back}
use Rattle.dcc_packet.proofs.LineFieldsBack.{direction_is_back, bit_is_back, small_is_back, nothing_is_back, cv_is_back}
use Rattle.dcc_packet.proofs.Tokens.{decimal_token, keyword_token}
use Rattle.dcc_packet.proofs.WordsBack.{small_number-decimal}
use Rattle.dcc_regs.specs.declared.register.Who.TheVariants as who
use Rattle.dcc_saved.specs.declared.decoder_line.Head.{Head}
use Rattle.dcc_saved.specs.declared.decoder_line.Head.TheVariants as heads
use Rattle.dcc_saved.specs.declared.decoder_line.LocoLine.TheVariants as behind
use Rattle.dcc_saved.specs.DecoderLines.{four, speed_words, version_field, speed_field, version_line, head_forms}
use Rattle.dcc_saved.specs.DecoderLines.{head_line}
use Rattle.dcc_saved.specs.DecoderLines.{head_of, speed_line, loco_line_of, loco_line, positions_line, aspects_line}
use Rattle.dcc_saved.specs.DecoderLines.{own_address_field, own_board_field, loco_head_form, board_form, end_form}
use Rattle.dcc_saved.specs.PossibleLines.{IsPossibleHead}
use Rattle.dcc_saved.proofs.LinesBack.{IsLineBack, few_say, keyed_back}
use Rattle.dcc_saved.proofs.RulesBack.{version_is_back, speed_back, speed_is_back, four_back, own_address_is_back}
use Rattle.dcc_saved.proofs.RulesBack.{own_board_is_back}

pub version_line_back : IsLineBack version_line
version_line_back =
    keyed_back (codes "dcc-decoders") version_field (keyword_token (codes "dcc-decoders") refl) version_is_back
    (λ x fits. omega arith)

pub speed_line_back : IsLineBack speed_line
speed_line_back =
    keyed_back (codes "speed") (both speed_field direction_field) (keyword_token (codes "speed") refl)
    (both_back speed_field direction_field speed_is_back direction_is_back)
    (λ x fits. omega (
      arith,
      (speed_back x.0.speed fits.0).2,
      length-append (speed_words x.0.speed) (direction_field.written x.1),
    ))

pub positions_line_back : IsLineBack positions_line
positions_line_back =
    keyed_back (codes "position") (four bit_field) (keyword_token (codes "position") refl)
    (four_back bit_field bit_is_back) (λ x fits. omega arith)

pub aspects_line_back : IsLineBack aspects_line
aspects_line_back =
    keyed_back (codes "aspect") (four small_field) (keyword_token (codes "aspect") refl)
    (four_back small_field small_is_back) (λ x fits. omega arith)

-- the lines that begin a decoder, and the last line
back : AreBack head_forms
back = (
  row_back own_address_field loco_head_form own_address_is_back
      (record { token = refl; back = elim [ heads.Decoder (who.Loco address) ↦ λ x e. cc | head ↦ λ x e. absurd cc ] }),
  (
    row_back own_board_field board_form own_board_is_back
        (record {
          token = refl;
          back = elim [ heads.Decoder (who.Board board) ↦ λ x e. cc | head ↦ λ x e. absurd cc ];
        }),
    (
      row_back no_fields end_form nothing_is_back
          (record { token = refl; back = elim [ heads.End ↦ λ x e. cc | head ↦ λ x e. absurd cc ] }),
      tt,
    ),
  ),
)

head_found : (head : Head) → IsPossibleHead head → Found head_forms head
head_found (heads.Decoder (who.Loco address)) fits = found head_forms _ back refl fits
head_found (heads.Decoder (who.Board board)) fits = found head_forms _ back refl fits
head_found heads.End fits = found head_forms _ back refl tt

few_words : (head : Head) → length (written_by head_forms head) ≤ 38
few_words (heads.Decoder (who.Loco address)) = omega arith
few_words (heads.Decoder (who.Board board)) = omega arith
few_words heads.End = omega arith

pub head_line_back : IsLineBack head_line
unfolding head_of
head_line_back head fits =
    let f = head_found head fits in
    let few : length f.words ≤ 38 = omega (arith, ap length f.is, few_words head) in
    rw f.is
    (few_say head_line head f.keyword f.words f.tokens few (whole_by_back head_forms head f))

-- the lines behind `pending`
pub loco_line_back : (least : ℕ) → IsLineBack (loco_line least)
unfolding head_of loco_line_of
loco_line_back least (behind.Cv cv value) fits =
    let number = decimal_token cv.number (omega (arith, cv.in_range)) in
    let byte = decimal_token value (omega (arith, fits.1)) in
    few_say (loco_line least) (behind.Cv cv value) (codes "cv") (decimal cv.number ∷ decimal value ∷ [])
    (keyword_token (codes "cv") refl, (number, (byte, tt))) (omega arith)
    (rw (cv_is_back.back cv _ tt, le-ltb cv.number least fits.0, small_number-decimal value fits.1) refl)
loco_line_back least (behind.Head head) fits =
    let f = head_found head fits in
    let few : length f.words ≤ 38 = omega (arith, ap length f.is, few_words head) in
    let other : is_word f.keyword (codes "cv") ≡ false =
    other_word f.keyword (codes "cv") (has_keyword head_forms (codes "cv")) refl (λ e. rw e at f.has) in
    rw f.is
    (few_say (loco_line least) (behind.Head head) f.keyword f.words f.tokens few
    (rw (other, whole_by_back head_forms head f) refl))
