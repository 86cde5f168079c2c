use Rattle.dcc_c.proofs.PossibleBoardLemmas.{board_applied}
use Rattle.dcc_c.proofs.possible_board.PossibleBoardProgrammable.apply_packet.Goals as goal

pub returns : goal.returns
returns c =
    board_applied c.numbers-self.result c.self-1.given.0 c.args.self.now.held.0 c.state.result
    c.board_after_packet-after.result c.args.self.now.cvs c.args.packet.now c.numbers-self.ensures c.state.ensures
    c.board_after_packet-after.ensures
