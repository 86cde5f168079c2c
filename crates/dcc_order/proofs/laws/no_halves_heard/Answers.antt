use Rattle.dcc_order.proofs.HearingLemmas.{no_halves_heard}
use Rattle.dcc_order.proofs.laws.no_halves_heard.Goals as goal

pub returns : goal.returns
returns c = no_halves_heard
