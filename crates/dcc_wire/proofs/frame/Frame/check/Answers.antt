use Rattle.std.proofs.Common.{◌≡◌, ℕ, ◌≤◌, List, length, get_or, Fits, w8, arith, sym, ◌∙◌}
use Rattle.dcc_wire.specs.Frames.{IsFrame, xor_of}
use Rattle.dcc_wire.proofs.frame.Frame.check.Goals as goal

is_frame : (bytes : List ℕ) → 3 ≤ length bytes → length bytes ≤ 6 → xor_of bytes ≡ 0
    → ((i : ℕ) → Fits w8 (get_or bytes i 0)) → IsFrame bytes
is_frame bytes least most error_byte fits = record {
  least = least;
  most = most;
  error_byte = error_byte;
  each = λ i. omega (arith, fits i);
}

pub returns-clause-valid : goal.returns-clause-valid
returns-clause-valid c =
    is_frame c.args.bytes.now c.if-bytes-lt3.false c.if-bytes-gt6.false (sym c.xor.ensures ∙ c.if-xor-ne0.false)
    c.type_inv.bytes
