use Rattle.std.proofs.Common.{inl, inr, ◌∙◌, sym, refl, arith}
use Rattle.std.proofs.lemmas.List.{get_or_default}
use Rattle.dcc_order.specs.Turns.{no_turns}
use Rattle.std.proofs.lemmas.Bool.{true≢false, cases_eq}
use Rattle.dcc_order.proofs.numbered_blocks.same_turns_at.Goals as goal
use Rattle.dcc_order.proofs.numbered_blocks.same_turns_at.Goals.{else-not-is-via-else-not-is}
use Rattle.dcc_order.proofs.numbered_blocks.same_turns_at.Goals.{else-not-is-via-then-not-is+else-conflict}

pub loop-rival-preserved : goal.loop-rival-preserved
loop-rival-preserved c = λ k d e t below clash. elim (cases_eq k c.loop-rival.rival) [
  | inr other ↦ c.loop-rival.invariant k d e t (omega (arith, below, other)) clash
  | inl same ↦
      (let i = c.loop-rival.rival in
      rw same (elim c.else-not-is.branch [
        | else-not-is-via-else-not-is w ↦ get_or_default c.args.left.now i t no_turns c.loop-rival-test.true
            ∙ c.is.ensures.0 w.if-not-is.false
            ∙ get_or_default c.args.right.now i no_turns t (omega (arith, c.requires.each, c.loop-rival-test.true))
        | else-not-is-via-then-not-is+else-conflict w ↦
            let ms = c.args.members.now in
            let one = w.index-members-own.is
            ∙ get_or_default ms c.args.own w.index-members-own.result d (omega arith) in
            let other = w.index-members-rival.is
            ∙ get_or_default ms i w.index-members-rival.result e (omega arith) in
            absurd (true≢false (sym (w.conflict.ensures.1 (rw (one, other) (rw same at clash))) ∙ w.if-conflict.false))
      ]))
]

pub returns : goal.returns
returns c = (
  λ yes k d e t inside clash. c.loop-rival.invariant k d e t (omega (arith, inside, c.loop-rival-test.false)) clash,
  λ all. refl,
)
