use Rattle.dcc_c.proofs.ApplyLemmas.{board_heard_as, none_some, if_some}
use Rattle.dcc_c.proofs.board.after.Goals as goal

pub returns-clause-applies : goal.returns-clause-applies
returns-clause-applies c before possible e =
    board_heard_as c.args.packet.now c.in_ok-state_of.field-0 before c.heard.result c.state_of.result
    c.in_ok-state_of.was (c.state_of.ensures.found before e)
    c.heard.ensures.applies possible

pub returns-in_err-state_of-clause-applies : goal.returns-in_err-state_of-clause-applies
returns-in_err-state_of-clause-applies c before possible e =
    absurd (none_some c.state_of.result before c.in_err-state_of.was (c.state_of.ensures.found before e))

pub returns-clause-decoder : goal.returns-clause-decoder
returns-clause-decoder c =
    if_some c.heard.result _ _ (λ x single. (c.in_ok-state_of.field-0, single, c.in_ok-state_of.ensures.numbers))
    c.heard.ensures.possible
