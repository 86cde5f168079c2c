use Rattle.std.proofs.Common.{◌≡◌, ◌-◌, ◌/◌, ◌^◌, ◌∷◌, ◌++◌, [], false, eqb, take, sym, ap, ◌∙◌, append-nil, arith}
use Rattle.std.specs.Int.{bit_at}
use Rattle.std.proofs.lemmas.Nat.{and_mask}
use Rattle.dcc_wire.specs.Bodies.{bits_of}
use Rattle.dcc_wire.specs.Sending.{durations_of}
use Rattle.dcc_c.proofs.HalvesLemmas.{durations_behind, same_behind, highest_first}
use Rattle.dcc_c.proofs.halves.put_byte.Goals as goal

pub bits-init : goal.bits-init
bits-init c =
    let timing = c.args.timing.now in
    let bits = bits_of 8 c.args.byte in
    record {
      written =
          ap (λ s. s ++ durations_of timing bits) c.put_bit-written.ensures.written
          ∙ durations_behind timing (take c.args.count c.args.halves.now) (false ∷ []) bits;
      count = omega (arith, c.put_bit-written.ensures.count);
      behind = c.put_bit-written.ensures.behind;
      few = omega arith;
    }

pub bits-preserved : goal.bits-preserved
bits-preserved c =
    let timing = c.args.timing.now in
    let byte = c.args.byte in
    let place = c.bits.place - 1 in
    let front = take c.bits.written c.bits.halves in
    let call = c.put_bit-written-in-bits in
    record {
      written =
          ap (λ s. s ++ durations_of timing (bits_of place byte))
          (call.ensures.written
          ∙ ap (λ m. front ++ durations_of timing (eqb m 1 ∷ [])) (and_mask (byte / 2 ^ place) 1))
          ∙ durations_behind timing front (eqb (bit_at byte place) 1 ∷ []) (bits_of place byte)
          ∙ ap (λ bits. front ++ durations_of timing bits)
          (highest_first c.bits.place byte (omega (arith, c.bits-test.true)))
          ∙ c.bits.invariant.written;
      count = omega (arith, call.ensures.count, c.bits.invariant.count, c.bits-test.true);
      behind =
          call.ensures.behind
          ∙ same_behind c.bits.halves c.args.halves.now c.bits.written call.result
          (omega (arith, call.ensures.count)) c.bits.invariant.behind;
      few = omega (arith, c.bits.invariant.few);
    }

pub returns-clause-written : goal.returns-clause-written
unfolding bits_of durations_of
returns-clause-written c =
    let none : c.bits.place ≡ 0 = omega (arith, c.bits-test.false) in
    sym (append-nil (take c.bits.written c.bits.halves)) ∙ rw none at c.bits.invariant.written
