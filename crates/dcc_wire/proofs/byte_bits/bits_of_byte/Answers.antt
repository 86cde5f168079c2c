use Rattle.std.proofs.Common.{◌≡◌, ◌∙◌, false, cond, add-one, arith, refl}
use Rattle.dcc_wire.proofs.ByteBits.{bits_of-bit, byte_of_bool}
use Rattle.dcc_wire.proofs.PassedBits.{adds_bit, adds_none, next_small}
use Rattle.dcc_wire.proofs.byte_bits.bits_of_byte.Goals.{else-bit-via-then-bit+else-byte-eq0, else-bit-via-else-bit}
use Rattle.dcc_wire.proofs.byte_bits.bits_of_byte.Goals as goal

pub bits-init : goal.bits-init
bits-init c = record {
  adds = adds_none _;
  part = omega (arith, c.requires.part);
  zero_first = c.requires.zero_first;
  none = λ none. (refl, refl);
  inside = omega arith;
}

pub bits-preserved : goal.bits-preserved
bits-preserved c =
    let byte = c.bits.byte in
    let bit = c.in-Some.bit in
    let before = c.bits.invariant in
    let inside = c.if-byte-halves.true in
    let number : c.from.result ≡ cond bit 1 0 = c.from.ensures ∙ byte_of_bool bit in
    let zero_bit : byte.count ≡ 0 → bit ≡ false = λ none. elim c.else-bit.branch [
      | else-bit-via-then-bit+else-byte-eq0 w ↦ absurd (omega (arith, none, w.if-byte-eq0.false))
      | else-bit-via-else-bit w ↦ w.if-bit.false
    ] in
    record {
      adds = adds_bit _ _ _ c.args.halves.now byte.at bit (omega (arith, inside)) c.in-Some.ensures.some before.adds
          (rw (number, add-one byte.count) (bits_of-bit byte.count byte.shift bit));
      part = omega (arith, c.bits-test.true);
      zero_first = rw number (next_small byte.count byte.shift bit before.zero_first zero_bit);
      none = λ none. absurd (omega (arith, none));
      inside = omega (arith, inside);
    }
