use Rattle.dcc_regs.specs.BoardDecoder.{board_content}
use Rattle.dcc_regs.proofs.BoardStep.{possible}
use Rattle.dcc_regs.proofs.board.BoardDecoderDecoder.who.Goals as goal

pub returns-clause-possible : goal.returns-clause-possible
returns-clause-possible c =
    possible c.args.self.now.board (board_content c.args.self.now) c.args.self.now.is_board c.are_bytes.ensures
