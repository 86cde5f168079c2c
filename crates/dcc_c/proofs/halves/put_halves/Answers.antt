use Rattle.std.proofs.Common.{◌≡◌, ◌+◌, ◌-◌, suc, ◌∷◌, ◌++◌, [], true, false, get_or, take, drop, replicate, refl}
use Rattle.std.proofs.Common.{ap, ◌∙◌, arith}
use Rattle.dcc_wire.specs.Bodies.{bits_of, body_bits}
use Rattle.dcc_wire.specs.Sending.{durations_of, sent, sent_bits}
use Rattle.dcc_c.proofs.HalvesLemmas.{durations_behind, same_behind, byte_first, end_bit}
use Rattle.dcc_c.proofs.halves.put_halves.Goals as goal

pub loop-init : goal.loop-init
unfolding sent sent_bits
loop-init c =
    let timing = c.args.timing.now in
    let whole : timing.preamble - 0 ≡ timing.preamble = omega arith in
    record {
      written = ap (λ n. durations_of timing (replicate n true ++ body_bits c.args.frame.now)) whole;
      count = refl;
      behind = refl;
    }

pub loop-preserved : goal.loop-preserved
loop-preserved c =
    let timing = c.args.timing.now in
    let body = body_bits c.args.frame.now in
    let front = take c.loop.count c.loop.halves in
    let left = timing.preamble - (c.loop.counter + 1) in
    let one_more : suc left ≡ timing.preamble - c.loop.counter = omega (arith, c.loop-test.true) in
    let call = c.put_bit-count in
    record {
      written =
          ap (λ s. s ++ durations_of timing (replicate left true ++ body)) call.ensures.written
          ∙ durations_behind timing front (true ∷ []) (replicate left true ++ body)
          ∙ ap (λ n. front ++ durations_of timing (replicate n true ++ body)) one_more
          ∙ c.loop.invariant.written;
      count = omega (arith, call.ensures.count, c.loop.invariant.count);
      behind =
          call.ensures.behind
          ∙ same_behind c.loop.halves c.args.halves.now c.loop.count call.result
          (omega (arith, call.ensures.count)) c.loop.invariant.behind;
    }

pub loop-byte-preserved : goal.loop-byte-preserved
loop-byte-preserved c =
    let timing = c.args.timing.now in
    let frame = c.args.frame.now in
    let i = c.loop-byte.byte-index in
    let front = take c.loop-byte.count c.loop-byte.halves in
    let later = body_bits (drop (i + 1) frame) in
    let call = c.put_byte-count in
    record {
      written =
          ap (λ s. s ++ durations_of timing later) call.ensures.written
          ∙ durations_behind timing front (false ∷ bits_of 8 (get_or frame i 0)) later
          ∙ ap (λ bits. front ++ durations_of timing bits) (byte_first frame i c.loop-byte-test.true)
          ∙ c.loop-byte.invariant.written;
      count = omega (arith, call.ensures.count, c.loop-byte.invariant.count);
      behind =
          call.ensures.behind
          ∙ same_behind c.loop-byte.halves c.args.halves.now c.loop-byte.count call.result
          (omega (arith, call.ensures.count)) c.loop-byte.invariant.behind;
    }

pub returns-clause-halves : goal.returns-clause-halves
returns-clause-halves c =
    c.put_bit-len.ensures.written
    ∙ ap (λ bits. take c.loop-byte.count c.loop-byte.halves ++ durations_of c.args.timing.now bits)
    (end_bit c.args.frame.now c.loop-byte.byte-index (omega (arith, c.loop-byte-test.false)))
    ∙ c.loop-byte.invariant.written

pub returns-clause-behind : goal.returns-clause-behind
returns-clause-behind c =
    c.put_bit-len.ensures.behind
    ∙ same_behind c.loop-byte.halves c.args.halves.now c.loop-byte.count c.put_bit-len.result
    (omega (arith, c.put_bit-len.ensures.count)) c.loop-byte.invariant.behind
