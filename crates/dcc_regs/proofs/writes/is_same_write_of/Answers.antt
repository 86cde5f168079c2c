use Rattle.std.proofs.Common.{sym, ◌∙◌, arith}
use Rattle.std.proofs.lemmas.Bool.Decides.{Decides-eqb, Decides-like}
use Rattle.dcc_regs.proofs.SameWrites.{Decides-write, Decides-bit_write}
use Rattle.dcc_regs.proofs.writes.is_same_write_of.Goals as goal
use Rattle.dcc_regs.proofs.writes.is_same_write_of.Goals.{then-number-2, else-number-2}

pub returns-then-number : goal.returns-then-number
returns-then-number c =
    let is = c.in-CvWrite-CvWrite in
    Decides-like _ (λ e. is.is-0 ∙ e ∙ sym is.is-1) (λ e. sym is.is-0 ∙ e ∙ is.is-1)
    (Decides-write is.other is.cv is.byte is.value (omega arith))

pub returns-then-place : goal.returns-then-place
returns-then-place c =
    let is = c.in-CvBitWrite-CvBitWrite in
    elim c.if-number-2.branch [
      | then-number-2 w ↦ Decides-like _ (λ e. is.is-0 ∙ e ∙ sym is.is-1) (λ e. sym is.is-0 ∙ e ∙ is.is-1)
          (Decides-bit_write is.other is.cv is.at is.place is.bit is.one (omega arith)
          (sym w.place.ensures.value ∙ (Decides-eqb _ _).0 (sym w.value-is ∙ c.if-place.true)
          ∙ w.place-then-number-2.ensures.value))
      | else-number-2 w ↦ absurd (w.if-number-2.false ((Decides-eqb _ _).0 (sym w.value-is ∙ c.if-place.true)))
    ]
