use Rattle.std.proofs.Common.{◌∙◌, ap}
use Rattle.std.specs.Result.{result_ok}
use Rattle.dcc_c.proofs.LocoLemmas.{long_back}
use Rattle.dcc_c.proofs.loco_numbers.long.Goals as goal

pub returns-clause-found : goal.returns-clause-found
returns-clause-found c own e = c.ok.ensures.value ∙ ap result_ok (c.long.ensures.exact ∙ long_back c.args.number own e)
