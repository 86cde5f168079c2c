-- The error byte behind the bytes of a frame.
use Rattle.std.proofs.Common.{◌≡◌, ℕ, ◌-◌, ◌+◌, List, [], ◌∷◌, ◌++◌, length, take, get_or, ap, sym, ◌∙◌, subst, arith}
use Rattle.std.proofs.Common.{refl}
use Rattle.std.proofs.lemmas.List.{take_at, take_all, take_more, length-append}
use Rattle.dcc_packet.specs.Rows.{IsPacketRow, HasRow}
use Rattle.dcc_wire.specs.Frames.{IsFrame, xor_of, with_error_byte}
use Rattle.dcc_wire.proofs.ErrorByte.{last_is_error_byte}

-- the bytes before the error byte are known
pub same_bytes : (a b : List ℕ) → with_error_byte a ≡ with_error_byte b → a ≡ b
same_bytes a b e =
    let n : length a ≡ length b =
    omega (arith, ap length e, length-append a (xor_of a ∷ []), length-append b (xor_of b ∷ [])) in
    sym (take_at a (xor_of a ∷ []) (length a) refl) ∙ ap (take (length a)) e
    ∙ take_at b (xor_of b ∷ []) (length a) (sym n)

last_of : (bytes : List ℕ) (n : ℕ) → n + 1 ≡ length bytes → bytes ≡ take n bytes ++ get_or bytes n 0 ∷ []
last_of bytes n e = sym (take_all (n + 1) bytes (omega arith)) ∙ take_more bytes n 0 (omega arith)

-- a frame is the bytes before its last, and their error byte
pub frame_parts : (bytes : List ℕ) → IsFrame bytes → bytes ≡ with_error_byte (take (length bytes - 1) bytes)
frame_parts bytes valid =
    let n : ℕ = length bytes - 1 in
    let parts : bytes ≡ take n bytes ++ get_or bytes n 0 ∷ [] = last_of bytes n (omega (arith, valid.least)) in
    let zero : xor_of (take n bytes ++ get_or bytes n 0 ∷ []) ≡ 0 = sym (ap xor_of parts) ∙ valid.error_byte in
    parts ∙ last_is_error_byte (take n bytes) (get_or bytes n 0) zero

-- a frame whose bytes are in no row has no row
pub in_no_row : (frame : List ℕ) → IsFrame frame → ¬ (IsPacketRow (take (length frame - 1) frame)) → ¬ (HasRow frame)
in_no_row frame valid none (bytes, row, e) =
    none (subst IsPacketRow (same_bytes bytes (take (length frame - 1) frame) (sym e ∙ frame_parts frame valid)) row)
