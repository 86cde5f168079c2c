use Rattle.std.proofs.Common.{◌∙◌, sym, refl, arith}
use Rattle.std.proofs.lemmas.List.{get_or_default}
use Rattle.dcc_order.specs.Turns.{no_turns}
use Rattle.dcc_order.proofs.numbered_blocks.same_turns_of.Goals as goal

pub returns-then-sets_nothing-clause-same : goal.returns-then-sets_nothing-clause-same
returns-then-sets_nothing-clause-same c = (
  λ t rival d e before clash.
      let nothing = c.sets_nothing.ensures.0 c.if-sets_nothing.true clash.mode clash.register in
      let here = get_or_default c.args.members.now c.args.own d c.index-members-own.result c.requires.within in
      absurd (cc (nothing, here, clash.first_sets)),
  λ all. refl,
)

pub returns-clause-same : goal.returns-clause-same
returns-clause-same c =
    let mine = rw (← c.as_slice.ensures.value) at c.count_turns.ensures.counted in
    let its = rw (← c.as_slice-2.ensures.value) at c.count_turns-2.ensures.counted in (
      λ t rival d e inside clash.
          sym (mine.told rival no_turns (omega (arith, mine.each, inside)))
          ∙ c.same_turns_at.ensures.0 t rival d e no_turns (omega (arith, mine.each, inside)) clash
          ∙ its.told rival no_turns (omega (arith, its.each, inside)),
      λ alike. c.same_turns_at.ensures.1 (λ rival d e t inside clash.
          mine.told rival t inside ∙ alike rival d e (omega (arith, inside, mine.each)) clash
          ∙ sym (its.told rival t (omega (arith, its.each, inside, mine.each)))),
    )
