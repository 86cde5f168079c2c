-- A written line is read again.
use Rattle.std.proofs.Common.{◌≡◌, List, [], ◌∷◌, Result, Ok, Err, ℕ, false, ap, sym, ◌∙◌, refl, arith, codes}
use Rattle.hex.specs.Hex.{encode_lower, IsBytes}
use Rattle.dcc_wire.specs.Frames.{IsFrame}
use Rattle.dcc_packet.specs.declared.fault.PacketFault.{PacketFault}
use Rattle.dcc_packet.specs.declared.packet.Packet.{Packet}
use Rattle.dcc_packet.specs.declared.packet.Packet.TheVariants.{Idle, Loco, Accessory, Signal, Other}
use Rattle.dcc_packet.specs.Forms.{AreBack, SaidBy, has_keyword, written_by}
use Rattle.dcc_packet.specs.Line.{frame, spelling_or_fault, frame_of_words, Says}
use Rattle.dcc_packet.specs.Fields.{both}
use Rattle.dcc_packet.specs.InstructionForms.{instruction_field}
use Rattle.dcc_packet.specs.LineFields.{no_fields, address_field, board_field, output_field, switch_field, signal_field}
use Rattle.dcc_packet.specs.LineFields.{small_field}
use Rattle.dcc_packet.specs.PacketForms.{packet_forms, idle_form, loco_form, accessory_form, signal_form}
use Rattle.dcc_packet.specs.Spelling.{spelling, BytesFit}
use Rattle.dcc_packet.specs.Words.{words, is_word}
use Rattle.dcc_packet.specs.Written.{written_line, words_in_line}
use Rattle.dcc_packet.proofs.FieldsBack.{both_back}
use Rattle.dcc_packet.proofs.FormsBack.{found, other_word, whole_by_back, row_back}
use Rattle.dcc_packet.proofs.InstructionFormsBack.{instruction_is_back}
use Rattle.dcc_packet.proofs.LineFieldsBack.{nothing_is_back, address_is_back, board_is_back, output_is_back}
use Rattle.dcc_packet.proofs.LineFieldsBack.{switch_is_back}
use Rattle.dcc_packet.proofs.LineFieldsBack.{signal_is_back, small_is_back}
use Rattle.dcc_packet.proofs.OneSpelling.{one_packet}
use Rattle.dcc_packet.proofs.Tokens.{keyword_token, hex_token}
use Rattle.dcc_packet.proofs.WordsBack.{hex_back}
use Rattle.dcc_packet.proofs.WrittenWords.{words_spaced}

frame_back : (f : List ℕ) → IsBytes f → IsFrame f → frame_of_words (codes "frame" ∷ encode_lower f ∷ []) ≡ Ok f
unfolding frame_of_words frame
frame_back f bytes h = rw (hex_back f bytes h) refl

back : AreBack packet_forms
back = (
  row_back no_fields idle_form nothing_is_back
      (record { token = refl; back = elim [ Idle ↦ λ x e. cc | packet ↦ λ x e. absurd cc ] }),
  (
    row_back (both address_field instruction_field) loco_form
        (both_back address_field instruction_field address_is_back instruction_is_back)
        (record { token = refl; back = elim [ Loco to what ↦ λ x e. cc | packet ↦ λ x e. absurd cc ] }),
    (
      row_back (both board_field (both output_field switch_field)) accessory_form
          (both_back board_field (both output_field switch_field) board_is_back
          (both_back output_field switch_field output_is_back switch_is_back))
          (record { token = refl; back = elim [ Accessory board output on ↦ λ x e. cc | packet ↦ λ x e. absurd cc ] }),
      (
        row_back (both signal_field small_field) signal_form
            (both_back signal_field small_field signal_is_back small_is_back)
            (record { token = refl; back = elim [ Signal address aspect ↦ λ x e. cc | packet ↦ λ x e. absurd cc ] }),
        tt,
      ),
    ),
  ),
)

-- the words of a packet in a form say the packet
form_says : (p : Packet) → SaidBy packet_forms p → frame_of_words (written_by packet_forms p) ≡ Ok (spelling p)
unfolding frame_of_words
form_says p s =
    let f = found packet_forms p back refl s in
    let other : is_word f.keyword (codes "frame") ≡ false =
    other_word f.keyword (codes "frame") (has_keyword packet_forms (codes "frame")) refl (λ e. rw e at f.has) in
    rw (f.is, other, whole_by_back packet_forms p f) refl

-- the words of its line are those that were written
form_words : (p : Packet) → SaidBy packet_forms p
    → words (words_in_line (written_by packet_forms p)) ≡ written_by packet_forms p
form_words p s =
    let f = found packet_forms p back refl s in
    rw f.is (words_spaced f.keyword f.words f.tokens.0 f.tokens.1)

form_line : (p : Packet) → SaidBy packet_forms p → Says (words (words_in_line (written_by packet_forms p))) (Ok p)
form_line p s = sym (ap frame_of_words (form_words p s) ∙ form_says p s)

-- a written line says its packet
pub says_back : (p : Packet) → BytesFit p → Says (words (written_line p)) (Ok p)
says_back (Other o) h =
    let text = hex_token o.frame (omega (arith, o.valid.least)) (omega (arith, o.valid.most)) in
    let line = words_spaced (codes "frame") (encode_lower o.frame ∷ []) (keyword_token (codes "frame") refl) (text, tt)
    in
    sym (ap frame_of_words line ∙ frame_back o.frame h o.valid)
says_back Idle h = form_line Idle tt
says_back (Signal s a) h = form_line (Signal s a) (tt, h)
says_back (Loco to what) h = form_line (Loco to what) (tt, h)
says_back (Accessory b o on) h = form_line (Accessory b o on) (tt, (tt, tt))

-- two answers with one spelling are one answer
spelled-injective : (one other : Result Packet PacketFault) → spelling_or_fault one ≡ spelling_or_fault other
    → one ≡ other
spelled-injective (Ok p) (Ok q) e =
    let same : spelling p ≡ spelling q = cc in
    ap Ok (one_packet p q same)
spelled-injective (Ok p) (Err f) e = absurd cc
spelled-injective (Err f) (Ok q) e = absurd cc
spelled-injective (Err f) (Err g) e = cc

-- words say one thing
pub one_answer : (line : List (List ℕ)) (one other : Result Packet PacketFault) → Says line one → Says line other
    → one ≡ other
one_answer line one other h k = spelled-injective one other (h ∙ sym k)

-- a written line says nothing but its packet
pub only_answer : (p : Packet) → BytesFit p → (answer : Result Packet PacketFault)
    → Says (words (written_line p)) answer → answer ≡ Ok p
only_answer p fits answer h = one_answer (words (written_line p)) answer (Ok p) h (says_back p fits)
