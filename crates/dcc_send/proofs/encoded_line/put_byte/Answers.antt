use Rattle.std.proofs.Common.{◌≡◌, ◌+◌, ◌-◌, ◌/◌, ◌^◌, ◌∷◌, ◌++◌, [], eqb, take, ap, ◌∙◌, arith}
use Rattle.std.proofs.lemmas.Nat.{and_mask}
use Rattle.dcc_wire.specs.Bodies.{bits_of}
use Rattle.dcc_send.proofs.BitLemmas.{text_of, bit_step, byte_ends}
use Rattle.dcc_send.proofs.encoded_line.put_byte.Goals as goal

pub loop-place-preserved : goal.loop-place-preserved
loop-place-preserved c =
    let byte = c.args.byte in
    let place = c.loop-place.place in
    let timing = c.args.texts.now.timing in
    let front = take c.loop-place.end c.loop-place.line in
    record {
      written =
          ap (λ s. s ++ text_of timing (bits_of (8 - (place + 1)) byte))
          (c.put_bit-end.ensures.items
          ∙ ap (λ m. front ++ text_of timing (eqb m 1 ∷ [])) (and_mask (byte / 2 ^ (7 - place)) 1))
          ∙ bit_step timing byte place front _ c.loop-place-test.true c.loop-place.invariant.written;
      few = omega (arith, c.put_bit-end.ensures.few, c.loop-place.invariant.few);
    }

pub returns-clause-items : goal.returns-clause-items
returns-clause-items c =
    byte_ends c.args.texts.now.timing c.args.byte c.loop-place.place _ _ (omega (arith, c.loop-place-test.false))
    c.loop-place.invariant.written
