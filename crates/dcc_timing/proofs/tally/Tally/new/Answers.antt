use Rattle.std.proofs.Common.{refl}
use Rattle.dcc_timing.proofs.TallyLemmas.{tally_none}
use Rattle.dcc_timing.proofs.tally.Tally.new.Goals as goal

pub returns-clause-tally : goal.returns-clause-tally
returns-clause-tally c = tally_none _ refl refl refl refl
