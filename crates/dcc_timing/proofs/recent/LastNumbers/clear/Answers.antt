use Rattle.std.proofs.Common.{refl}
use Rattle.dcc_timing.specs.Recent.{recent_numbers}
use Rattle.dcc_timing.proofs.recent.LastNumbers.clear.Goals as goal

pub returns : goal.returns
unfolding recent_numbers
returns c = refl
