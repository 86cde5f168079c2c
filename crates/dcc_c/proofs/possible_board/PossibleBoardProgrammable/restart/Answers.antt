use Rattle.dcc_c.proofs.PossibleBoardLemmas.{board_restarted}
use Rattle.dcc_c.proofs.possible_board.PossibleBoardProgrammable.restart.Goals as goal

pub returns : goal.returns
returns c =
    board_restarted c.numbers-self.result c.self-1.given.0 c.args.self.now.held.0 c.state.result
    c.board_after_power_up-after.result c.args.self.now.cvs c.numbers-self.ensures c.state.ensures
    c.board_after_power_up-after.ensures
