-- Reading the frames of service packets.
use Rattle.std.proofs.Common.{◌≡◌, ◌≢◌, ℕ, List, [], ◌∷◌, length, get_or, Option, Some, None, IfSome, IfNone, ap, sym}
use Rattle.std.proofs.Common.{◌∙◌, arith}
use Rattle.dcc_wire.specs.Frames.{xor_of, with_error_byte}
use Rattle.dcc_service.specs.declared.packet.ServicePacket.{ServicePacket}
use Rattle.dcc_service.specs.Table.{service_bytes, service_spelling}
use Rattle.dcc_packet.proofs.FrameParts.{same_bytes}
use Rattle.dcc_wire.proofs.ErrorByte.{last_is_error_byte}
use Rattle.dcc_service.proofs.OneSpelling.{one_instruction}

-- a frame of four bytes is its first three and their error byte
pub four_bytes : (bytes : List ℕ) → length bytes ≡ 4 → xor_of bytes ≡ 0
    → bytes ≡ with_error_byte (get_or bytes 0 0 ∷ get_or bytes 1 0 ∷ get_or bytes 2 0 ∷ [])
four_bytes (a ∷ b ∷ c ∷ d ∷ []) e x = last_is_error_byte (a ∷ b ∷ c ∷ []) d x
four_bytes [] e x = absurd (omega arith)
four_bytes xs e x = absurd (omega arith)

pub spelled_of : (result : Option ServicePacket) (bytes frame : List ℕ)
    → IfSome result (λ packet. service_bytes packet ≡ bytes) → frame ≡ with_error_byte bytes
    → IfSome result (λ packet. service_spelling packet ≡ frame)
spelled_of None bytes frame found e = tt
spelled_of (Some packet) bytes frame found e = ap with_error_byte found ∙ sym e

pub only_of : (result : Option ServicePacket) (bytes frame : List ℕ)
    → IfSome result (λ packet. service_bytes packet ≡ bytes)
    → IfNone result ((packet : ServicePacket) → service_bytes packet ≢ bytes) → frame ≡ with_error_byte bytes
    → (packet : ServicePacket) → service_spelling packet ≡ frame → result ≡ Some packet
only_of None bytes frame found none e packet spelled =
    absurd (none packet (same_bytes (service_bytes packet) bytes (spelled ∙ e)))
only_of (Some other) bytes frame found none e packet spelled =
    ap Some (one_instruction other packet (found ∙ sym (same_bytes (service_bytes packet) bytes (spelled ∙ e))))
