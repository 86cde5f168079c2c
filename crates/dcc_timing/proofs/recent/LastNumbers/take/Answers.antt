use Rattle.std.proofs.Common.{◌∙◌, append-nil, ap, arith, sym}
use Rattle.dcc_timing.specs.Numbers.{keep_last}
use Rattle.dcc_timing.specs.Recent.{recent_numbers}
use Rattle.dcc_timing.proofs.RecentLemmas.{recent_more, recent_all}
use Rattle.dcc_timing.proofs.recent.LastNumbers.take.Goals as goal

pub numbers-init : goal.numbers-init
numbers-init c = record {
  within = omega arith;
  copies = λ numbers so. so ∙ ap (keep_last 130) (sym (append-nil numbers));
}

pub numbers-preserved : goal.numbers-preserved
numbers-preserved c = record {
  within = omega (arith, c.min-more.ensures, c.numbers.invariant.within);
  copies = λ numbers so.
      recent_more numbers (recent_numbers c.make_room.new.self) (recent_numbers c.add_copies.new.self) c.args.number
      c.numbers.taken c.min-more.result (c.make_room.ensures.numbers ∙ c.numbers.invariant.copies numbers so)
      c.add_copies.ensures;
}

pub returns : goal.returns
returns c = λ numbers so. recent_all numbers (recent_numbers c.numbers.self) c.args.number c.args.n c.numbers.taken
    (c.numbers.invariant.copies numbers so)
    (omega (arith, c.numbers-test.false, c.numbers.invariant.within, c.min-count.ensures))
