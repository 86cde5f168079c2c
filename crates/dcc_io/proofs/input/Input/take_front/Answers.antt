use Rattle.std.proofs.Common.{◌-◌, ◌∙◌, take, ap, arith}
use Rattle.dcc_io.specs.InputState.{InputState}
use Rattle.dcc_io.proofs.FrontLemmas.{begins_with}
use Rattle.dcc_io.proofs.input.Input.take_front.Goals as goal

pub pass_word_and_gap-requires-clause-begins : goal.pass_word_and_gap-requires-clause-begins
pass_word_and_gap-requires-clause-begins g c = begins_with c.args.self.now.ahead c.args.front c.requires.front

pub returns-clause-some : goal.returns-clause-some
returns-clause-some g c =
    let passed = c.pass_word_and_gap.ensures.passed in
    let left = c.requires.left in
    let counted = ap (λ (input : InputState). record input { halves = input.halves - 1 }) c.self-2.view_is in
    record {
      word = take c.args.front.len c.args.self.now.ahead;
      spells = c.requires.front.spells;
      mid = c.pass_word_and_gap.new.self;
      passed = passed;
      some = omega (arith, passed.halves, left);
      counted = counted;
      lines = ap (λ (input : InputState). input.lines) counted ∙ c.pass_word_and_gap.ensures.lines;
      fewer = omega (arith, ap (λ (input : InputState). input.bytes) counted, c.pass_word_and_gap.ensures.fewer);
    }
