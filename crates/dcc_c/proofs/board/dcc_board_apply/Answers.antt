use Rattle.std.proofs.Common.{◌∙◌, ap, refl}
use Rattle.dcc_regs.specs.declared.board_state.BoardState.{BoardState}
use Rattle.dcc_c.specs.Boards.{board_numbers}
use Rattle.dcc_c.proofs.ApplyLemmas.{same_some}
use Rattle.dcc_c.proofs.board.dcc_board_apply.Goals as goal

pub returns-in-Some-clause-applies : goal.returns-in-Some-clause-applies
returns-in-Some-clause-applies c ok before single e =
    let h = c.after.ensures.applies before single e in
    let same = same_some c.in-Some.state h.0 c.after.result c.in-Some.is h.1 in (
      c.read.result,
      h.0,
      c.read.ensures.spelled ∙ c.in-Ok.ensures.0,
      h.2,
      c.numbers.ensures
          ∙ ap (λ (s : BoardState). board_numbers s) same,
      refl,
      h.3,
    )
