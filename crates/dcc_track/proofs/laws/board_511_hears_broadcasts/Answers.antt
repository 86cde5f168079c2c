use Rattle.dcc_track.proofs.BoardLemmas.{board_511_hears_broadcasts}
use Rattle.dcc_track.proofs.laws.board_511_hears_broadcasts.Goals as goal

pub returns : goal.returns
returns c = board_511_hears_broadcasts
