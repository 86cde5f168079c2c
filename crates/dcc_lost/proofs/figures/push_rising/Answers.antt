use Rattle.std.proofs.Common.{◌≡◌, ◌∙◌, arith, length-set, refl, subst, take, ◌++◌}
use Rattle.dcc_timing.specs.Numbers.{keep_last}
use Rattle.dcc_timing.specs.Recent.{recent_numbers}
use Rattle.dcc_lost.specs.Inner.{rising}
use Rattle.dcc_lost.proofs.OneFigures.{rising_more}
use Rattle.dcc_lost.proofs.figures.push_rising.Goals as goal

pub loop-i-init : goal.loop-i-init
unfolding rising
loop-i-init c = record { numbers = refl; whole = refl }

pub loop-i-preserved : goal.loop-i-preserved
loop-i-preserved c =
    let inside = c.loop-i.invariant.whole in
    record {
      numbers = rising_more c.loop-i.rising c.args.first c.loop-i.i c.saturating_add.result
          (omega (arith, inside, c.requires, c.loop-i-test.true)) (omega (arith, c.saturating_add.ensures))
          c.loop-i.invariant.numbers;
      whole = length-set c.loop-i.rising c.loop-i.i c.saturating_add.result ∙ inside;
    }

pub returns : goal.returns
returns c = λ list so.
    let all : c.loop-i.i ≡ c.args.n = omega (arith, c.loop-i-test.false, c.loop-i.auto.i-end) in
    let numbers : take c.args.n c.loop-i.rising ≡ rising c.args.first c.args.n =
    rw all at c.loop-i.invariant.numbers in
    subst (λ l. recent_numbers c.append.new.self ≡ keep_last 130 (list ++ l)) numbers (c.append.ensures list so)
