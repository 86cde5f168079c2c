use Rattle.std.proofs.Common.{sym, ap, ◌∙◌}
use Rattle.dcc_regs.specs.declared.register.Who.{Who}
use Rattle.dcc_regs.specs.declared.register.Who.TheVariants.{Board as BoardWho}
use Rattle.dcc_regs.specs.Board.{board_registers}
use Rattle.dcc_regs.specs.PackedBoard.{packed_content}
use Rattle.dcc_regs.specs.BoardState.{board_map, board_who}
use Rattle.dcc_regs.specs.Result.{RegisterMap, step}
use Rattle.dcc_track.proofs.BoardLemmas.{same_step}
use Rattle.dcc_track.proofs.board_steps.heard.Goals as goal

pub returns-clause-registers : goal.returns-clause-registers
returns-clause-registers c =
    let address = c.hearing_address-own.result in
    let state = c.args.state.now in
    let packet = c.args.packet.now in
    sym c.state-after.ensures.registers ∙ c.apply.ensures.step
    ∙ ap (λ (who : Who). step who (board_registers (packed_content c.in-Ok.decoder)) packet) c.in-Ok.ensures.who
    ∙ ap (λ (m : RegisterMap). step (BoardWho address) m packet) c.in-Ok.ensures.registers
    ∙ same_step (BoardWho address) (board_who state) (board_map state) packet
    (c.hearing_address-own.ensures.hears packet c.requires) c.requires
