use Rattle.std.proofs.Common.{◌∙◌, ap}
use Rattle.std.specs.Result.{result_ok}
use Rattle.dcc_c.proofs.LocoLemmas.{short_back}
use Rattle.dcc_c.proofs.loco_numbers.short.Goals as goal

pub returns-clause-found : goal.returns-clause-found
returns-clause-found c own e =
    c.ok.ensures.value ∙ ap result_ok (c.short.ensures.exact ∙ short_back c.args.number own e)
