use Rattle.std.proofs.Common.{◌≡◌, ◌+◌, ◌∷◌, ◌++◌, [], take, drop, get_or, true, refl, ap, ◌∙◌, arith}
use Rattle.dcc_wire.specs.Bodies.{bits_of, body_bits}
use Rattle.dcc_send.proofs.BitLemmas.{text_of, body_begins, byte_step, body_ends}
use Rattle.dcc_send.proofs.encoded_line.put_halves.Goals as goal

pub loop-byte-init : goal.loop-byte-init
loop-byte-init c =
    let texts = c.args.texts.now in record {
      written = body_begins texts.timing c.args.frame.now texts.timing.preamble _ refl c.requires.preamble;
      few = omega (arith, c.requires.short);
    }

pub loop-byte-preserved : goal.loop-byte-preserved
loop-byte-preserved c =
    let timing = c.args.texts.now.timing in
    let byte = get_or c.args.frame.now c.loop-byte.byte-index 0 in
    let rest = text_of timing (body_bits (drop (c.loop-byte.byte-index + 1) c.args.frame.now)) in
    record {
      written =
          ap (λ s. s ++ rest)
          (c.put_byte-at.ensures.items ∙ ap (λ s. s ++ text_of timing (bits_of 8 byte)) c.put_bit-at.ensures.items)
          ∙ byte_step timing c.args.frame.now c.loop-byte.byte-index byte _ _ c.loop-byte-test.true refl
          c.loop-byte.invariant.written;
      few = omega (arith, c.put_byte-at.ensures.few, c.put_bit-at.ensures.few, c.loop-byte.invariant.few);
    }

pub returns-clause-items : goal.returns-clause-items
returns-clause-items c =
    c.put_bit.ensures.items
    ∙ body_ends c.args.texts.now.timing c.args.frame.now c.loop-byte.byte-index _
    (omega (arith, c.loop-byte-test.false)) c.loop-byte.invariant.written
