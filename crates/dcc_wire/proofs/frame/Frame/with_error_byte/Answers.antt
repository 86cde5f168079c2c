use Rattle.std.proofs.Common.{ℕ, ◌<◌, List, [], ◌∷◌, ◌++◌, length-append, get_or, arith}
use Rattle.std.proofs.lemmas.Grind.{common_steps}
use Rattle.dcc_wire.specs.Frames.{xor_of}
use Rattle.dcc_wire.proofs.ErrorByte.{xor_of-with_error_byte}
use Rattle.dcc_wire.proofs.frame.Frame.with_error_byte.Goals as goal

one_more_byte : (bytes : List ℕ) (e : ℕ) → ((i : ℕ) → get_or bytes i 0 < 256) → e < 256
    → (i : ℕ) → get_or (bytes ++ e ∷ []) i 0 < 256
one_more_byte bytes e each small i = grind (arith, common_steps, each)

pub invariant_of-result : goal.invariant_of-result
invariant_of-result c =
    let bytes = c.args.bytes.now in
    let small = rw c.xor.ensures at c.xor.type_inv in
    let long = length-append bytes (xor_of bytes ∷ []) in
    rw (c.push.ensures, c.of-all.ensures, c.xor.ensures) (record {
      least = omega (arith, long, c.if-bytes-lt2.false);
      most = omega (arith, long, c.if-bytes-gt5.false);
      error_byte = xor_of-with_error_byte bytes;
      each = one_more_byte bytes _ (λ i. let fits = c.type_inv.bytes i in omega (arith, fits)) small;
    })
