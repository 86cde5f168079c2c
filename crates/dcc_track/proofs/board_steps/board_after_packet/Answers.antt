use Rattle.dcc_track.proofs.BoardLemmas.{board_applied}
use Rattle.dcc_track.proofs.board_steps.board_after_packet.Goals as goal

pub returns-then-hears : goal.returns-then-hears
returns-then-hears c cvs =
    board_applied c.args.state.now c.heard.result cvs c.args.packet.now c.heard.ensures.board c.heard.ensures.registers
