use Rattle.std.proofs.Common.{◌∙◌, ap, refl}
use Rattle.dcc_regs.specs.declared.board_state.BoardState.{BoardState}
use Rattle.dcc_c.specs.Boards.{board_numbers}
use Rattle.dcc_c.proofs.ApplyLemmas.{same_ok}
use Rattle.dcc_c.proofs.board.dcc_board_new.Goals as goal

pub returns-in-Ok-clause-made : goal.returns-in-Ok-clause-made
returns-in-Ok-clause-made c single =
    let h = c.new.ensures.made single in
    let same = same_ok c.in-Ok.state h.0 c.new.result c.in-Ok.is h.1 in
    (h.0, h.2, c.numbers.ensures ∙ ap (λ (s : BoardState). board_numbers s) same, h.3, refl)
