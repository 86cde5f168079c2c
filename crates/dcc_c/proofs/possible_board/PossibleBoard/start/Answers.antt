use Rattle.std.proofs.Common.{◌∙◌, ap}
use Rattle.std.specs.Prelude.{Some}
use Rattle.dcc_regs.specs.declared.board_state.BoardState.{BoardState}
use Rattle.dcc_regs.specs.BoardState.{board_map}
use Rattle.dcc_c.proofs.PossibleBoardLemmas.{board_held}
use Rattle.dcc_c.proofs.possible_board.PossibleBoard.start.Goals as goal

pub returns-clause-board : goal.returns-clause-board
returns-clause-board c =
    ap (λ (s : BoardState). Some s.board)
    (board_held c.numbers-self.result c.self-1.given.0 c.board_with_cvs.result c.numbers-self.ensures)
    ∙ c.board_with_cvs.ensures.board

pub returns-clause-registers : goal.returns-clause-registers
returns-clause-registers c =
    ap board_map (board_held c.numbers-self.result c.self-1.given.0 c.board_with_cvs.result c.numbers-self.ensures)
    ∙ c.board_with_cvs.ensures.registers
