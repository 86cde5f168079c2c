use Rattle.dcc_lost.proofs.HeardLemmas.{hears_nothing}
use Rattle.dcc_lost.proofs.heard.Heard.new.Goals as goal

pub returns : goal.returns
returns c = hears_nothing _ c.new.ensures.stands
