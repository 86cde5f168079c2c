-- A frame has one text in plain words.
use Rattle.std.proofs.Common.{◌≡◌, ℕ, List, Option, None, Some, refl, sym, ap, ◌∙◌, subst, inl, inr, arith}
use Rattle.dcc_packet.specs.declared.packet.Packet.{Packet}
use Rattle.dcc_packet.proofs.OneSpelling.{one_packet}
use Rattle.dcc_service.specs.declared.packet.ServicePacket.{ServicePacket}
use Rattle.dcc_plain.specs.declared.standard.StandardPacket.{StandardPacket}
use Rattle.dcc_plain.specs.PlainText.{IsPlainText, IsServicePacketOf, IsTextOfFrame, body_of, other_words, plain_words}
use Rattle.dcc_plain.specs.Standard.{IsStandardPacketOf}

one_service_packet : (frame : List ℕ) (one other : Option ServicePacket) → IsServicePacketOf frame one
    → IsServicePacketOf frame other → one ≡ other
one_service_packet frame None None first second = refl
one_service_packet frame (Some packet) other first second = sym (second.only packet first.spelled)
one_service_packet frame None (Some packet) first second = first.only packet second.spelled

one_standard_packet : (bytes : List ℕ) (one other : Option StandardPacket) → IsStandardPacketOf bytes one
    → IsStandardPacketOf bytes other → one ≡ other
one_standard_packet bytes None None first second = refl
one_standard_packet bytes (Some packet) other first second = sym (second.only packet first.found.0 first.found.1)
one_standard_packet bytes None (Some packet) first second = first.only packet second.found.0 second.found.1

one_text_of_frame : (frame : List ℕ) (standard : Option StandardPacket) (one other : List ℕ)
    → IsTextOfFrame frame standard one → IsTextOfFrame frame standard other → one ≡ other
one_text_of_frame frame standard one other first second =
    first.4 ∙ ap (λ (packet : Packet). plain_words packet first.1 standard)
    (one_packet first.0 second.0 (first.2 ∙ sym second.2))
    ∙ ap (λ (service : Option ServicePacket). plain_words second.0 service standard)
    (one_service_packet frame first.1 second.1 first.3 second.3)
    ∙ sym second.4

pub one_plain_text : (frame one other : List ℕ) → IsPlainText frame one → IsPlainText frame other → one ≡ other
one_plain_text frame one other (a, first, inl (few, x)) (b, second, inl (few_too, y)) =
    let same : a ≡ b = one_standard_packet (body_of frame) a b first second in
    one_text_of_frame frame b one other (subst (λ (p : Option StandardPacket). IsTextOfFrame frame p one) same x) y
one_plain_text frame one other (a, first, inr (many, x)) (b, second, inr (many_too, y)) =
    let same : a ≡ b = one_standard_packet (body_of frame) a b first second in
    x ∙ ap (other_words frame) same ∙ sym y
one_plain_text frame one other (a, first, inl (few, x)) (b, second, inr (many, y)) = absurd (omega arith)
one_plain_text frame one other (a, first, inr (many, x)) (b, second, inl (few, y)) = absurd (omega arith)
