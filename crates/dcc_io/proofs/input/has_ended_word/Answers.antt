use Rattle.std.proofs.Common.{sym, ◌∙◌}
use Rattle.dcc_io.proofs.HandLemmas.{looks_at_start, word_behind, gap_behind, found_behind}
use Rattle.dcc_io.proofs.input.has_ended_word.Goals as goal
use Rattle.dcc_io.proofs.input.has_ended_word.Goals.{then-not-ends_word, else-not-ends_word+else-in_word}

pub loop-byte-init : goal.loop-byte-init
loop-byte-init c = looks_at_start c.args.in_comment c.args.bytes.now

pub returns-then-in_word : goal.returns-then-in_word
returns-then-in_word c = λ line found.
    found_behind _ _ _ _ _ c.loop-byte-test.true c.loop-byte.invariant line
    (rw (← c.is_comment-comment.ensures) (sym c.ends_word.ensures ∙ c.if-not-ends_word.false)) c.if-in_word.true

pub loop-byte-preserved : goal.loop-byte-preserved
loop-byte-preserved c = elim c.if-not-ends_word.branch [
  | then-not-ends_word w ↦
      rw (w.in_word-is, c.is_comment-comment.ensures)
      (word_behind _ _ _ _ _ c.loop-byte-test.true c.loop-byte.invariant
      (rw (← c.is_comment-comment.ensures) (sym c.ends_word.ensures ∙ w.if-not-ends_word.true)))
  | else-not-ends_word+else-in_word w ↦
      rw (w.in_word-is, c.is_comment-comment.ensures)
      (gap_behind _ _ _ _ _ c.loop-byte-test.true c.loop-byte.invariant w.if-in_word.false
      (rw (← c.is_comment-comment.ensures) (sym c.ends_word.ensures ∙ w.if-not-ends_word.false)))
]
