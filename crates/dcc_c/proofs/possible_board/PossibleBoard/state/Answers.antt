use Rattle.dcc_c.proofs.ApplyLemmas.{none_some, same_some}
use Rattle.dcc_c.proofs.possible_board.PossibleBoard.state.Goals as goal

pub unreachable-requires : goal.unreachable-requires
unreachable-requires c =
    none_some c.state_of.result _ c.in-None.is
    (c.state_of.ensures.found c.args.self.now.held.0 c.args.self.now.held.1)

pub returns : goal.returns
returns c =
    same_some c.in-Some.state _ c.state_of.result c.in-Some.is
    (c.state_of.ensures.found c.args.self.now.held.0 c.args.self.now.held.1)
