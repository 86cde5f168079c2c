use Rattle.dcc_track.proofs.board.BoardWithCvsProgrammable.apply_packet.Goals as goal

pub returns : goal.returns
returns c = c.board_after_packet.ensures c.args.self.now.cvs
