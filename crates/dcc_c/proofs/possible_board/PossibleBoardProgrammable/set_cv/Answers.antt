use Rattle.std.proofs.Common.{◌≡◌, ◌∙◌}
use Rattle.dcc_c.proofs.PossibleBoardLemmas.{board_cv_set}
use Rattle.dcc_c.proofs.possible_board.PossibleBoardProgrammable.set_cv.Goals as goal

pub returns : goal.returns
returns c =
    let number : c.from.result ≡ c.args.cv.number = c.from.ensures ∙ c.number.ensures.value in
    rw number (board_cv_set c.args.self.now.board c.args.self.now.held c.self-1.given.0 c.args.self.now.cvs _)
