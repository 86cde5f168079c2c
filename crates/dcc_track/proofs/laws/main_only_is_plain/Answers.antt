use Rattle.dcc_track.proofs.PlainLemmas.{main_only_is_plain}
use Rattle.dcc_track.proofs.laws.main_only_is_plain.Goals as goal

pub returns : goal.returns
returns c = main_only_is_plain
