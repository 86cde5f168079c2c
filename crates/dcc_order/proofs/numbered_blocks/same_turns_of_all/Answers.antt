use Rattle.std.proofs.Common.{◌∙◌, refl, sym, arith}
use borrow.Author.Count.{below_more}
use Rattle.dcc_order.specs.NumberedBlocks.{NumberedAlike}
use Rattle.std.proofs.lemmas.Bool.{true≢false}
use Rattle.dcc_order.proofs.numbered_blocks.same_turns_of_all.Goals as goal

pub returns-then-not-same_turns_of-clause-same : goal.returns-then-not-same_turns_of-clause-same
returns-then-not-same_turns_of-clause-same c = (
  λ t. absurd (true≢false (sym t)),
  λ all. absurd
      (true≢false
      (sym (c.same_turns_of.ensures.same.1 (all c.loop-own.own c.loop-own-test.true))
      ∙ c.if-not-same_turns_of.true)),
)

pub loop-own-preserved : goal.loop-own-preserved
loop-own-preserved c = record {
  alike = λ k below. below_more (NumberedAlike c.args.members.now c.args.numbers.now c.args.others.now) c.loop-own.own
      c.loop-own.invariant.alike (c.same_turns_of.ensures.same.0 c.if-not-same_turns_of.false) k below;
  room = omega (arith, c.loop-own.invariant.room, c.same_turns_of.ensures.room);
  other_room = omega (arith, c.loop-own.invariant.other_room, c.same_turns_of.ensures.other_room);
}

pub returns-clause-same : goal.returns-clause-same
returns-clause-same c =
    (λ t own inside. c.loop-own.invariant.alike own (omega (arith, inside, c.loop-own-test.false)), λ all. refl)
