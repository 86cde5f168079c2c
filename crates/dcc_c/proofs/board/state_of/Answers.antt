use Rattle.std.proofs.Common.{ap}
use Rattle.std.specs.Prelude.{Some}
use Rattle.dcc_c.proofs.ApplyLemmas.{same_some, none_some}
use Rattle.dcc_c.proofs.BoardLemmas.{state_back, number_back}
use Rattle.dcc_c.proofs.board.state_of.Goals as goal

pub returns-clause-found : goal.returns-clause-found
returns-clause-found c state e =
    let there = c.single.ensures.found state.board (number_back c.args.board.now state e) in
    let same = same_some c.in_ok-single.field-0 state.board c.single.result c.in_ok-single.was there in
    ap Some (state_back c.in_ok-single.field-0 c.args.board.now state e same)

pub returns-in_err-single-clause-found : goal.returns-in_err-single-clause-found
returns-in_err-single-clause-found c state e =
    let there = c.single.ensures.found state.board (number_back c.args.board.now state e) in
    absurd (none_some c.single.result state.board c.in_err-single.was there)
