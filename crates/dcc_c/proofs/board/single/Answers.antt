use Rattle.std.proofs.Common.{◌∙◌, ap}
use Rattle.std.specs.Result.{result_ok}
use Rattle.dcc_c.proofs.BoardLemmas.{board_back}
use Rattle.dcc_c.proofs.board.single.Goals as goal

pub returns-clause-found : goal.returns-clause-found
returns-clause-found c board e =
    c.ok.ensures.value ∙ ap result_ok (c.new.ensures.exact ∙ board_back c.args.number board e)
