use Rattle.std.proofs.Common.{◌≡◌, ◌++◌, ◌∷◌, [], take, true, replicate, ap, ◌∙◌, arith}
use Rattle.dcc_send.proofs.BitLemmas.{text_of, ones_none, ones_more}
use Rattle.dcc_send.proofs.encoded_line.put_ones.Goals as goal

pub loop-init : goal.loop-init
loop-init c = record { written = ones_none c.args.timing; few = omega arith }

pub loop-preserved : goal.loop-preserved
loop-preserved c =
    let timing = c.args.timing in
    let one = c.args.one.now in
    record {
      written =
          c.put-at.ensures.items ∙ ap (λ s. s ++ take one.len one.bytes) c.loop.invariant.written
          ∙ ap (λ t. text_of timing (replicate c.loop.counter true) ++ t) c.requires.text
          ∙ ones_more timing c.loop.counter;
      few = omega (arith, c.put-at.ensures.few, c.loop.invariant.few);
    }
