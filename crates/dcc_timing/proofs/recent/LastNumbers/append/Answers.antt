use Rattle.std.proofs.Common.{◌∙◌, arith, refl}
use Rattle.dcc_timing.specs.Recent.{recent_numbers}
use Rattle.dcc_timing.proofs.RecentLemmas.{appended_some}
use Rattle.dcc_timing.proofs.recent.LastNumbers.append.Goals as goal

pub numbers-preserved : goal.numbers-preserved
numbers-preserved c = record {
  inside = omega (arith, c.min-count.ensures, c.numbers.invariant.inside);
  taken = λ list so.
      appended_some list c.args.numbers.now (recent_numbers c.make_room.new.self) (recent_numbers c.add_all.new.self)
      c.numbers.at c.min-count.result _ refl (c.make_room.ensures.numbers ∙ c.numbers.invariant.taken list so)
      c.add_all.ensures;
}
