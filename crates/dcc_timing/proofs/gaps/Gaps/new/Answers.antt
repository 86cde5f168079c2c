use Rattle.std.proofs.Common.{refl}
use Rattle.dcc_timing.proofs.GapLemmas.{gaps_none}
use Rattle.dcc_timing.proofs.gaps.Gaps.new.Goals as goal

pub returns : goal.returns
returns c = gaps_none _ refl refl refl
