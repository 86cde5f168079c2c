use Rattle.dcc_service.proofs.ReadingLemmas.{frame_asked}
use Rattle.dcc_service.proofs.laws.questions_have_their_frames.Goals as goal

pub returns : goal.returns
returns c = frame_asked
