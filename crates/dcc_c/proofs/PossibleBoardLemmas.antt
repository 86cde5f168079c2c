-- An accessory decoder on both tracks, by the numbers of its C structure.
use Rattle.std.proofs.Common.{◌≡◌, List, ℕ, sym, ◌∙◌, ap}
use Rattle.dcc_packet.specs.declared.packet.Packet.{Packet}
use Rattle.dcc_regs.specs.declared.board_state.BoardState.{BoardState}
use Rattle.dcc_track.specs.BoardsWithCvs.{board_on_tracks}
use Rattle.dcc_track.specs.DecoderState.{after_packet, after_power_up, with_new_cvs}
use Rattle.dcc_c.specs.declared.board.DccBoard.{DccBoard}
use Rattle.dcc_c.specs.Boards.{board_numbers}
use Rattle.dcc_c.specs.HeldBoards.{HeldBoard, one_board}

-- a structure stores one state
pub board_held : (board : DccBoard) (held : HeldBoard board) (state : BoardState) → board ≡ board_numbers state
    → held.0 ≡ state
board_held board held state e = one_board held.0 state (sym held.1 ∙ e)

pub board_applied : (board : DccBoard) (held : HeldBoard board) (before state after : BoardState) (cvs : List ℕ)
    (packet : Packet) → board ≡ board_numbers after → state ≡ before
    → ((list : List ℕ) → board_on_tracks after list ≡ after_packet (board_on_tracks state list) packet)
    → board_on_tracks held.0 cvs ≡ after_packet (board_on_tracks before cvs) packet
board_applied board held before state after cvs packet e same applied =
    ap (λ (s : BoardState). board_on_tracks s cvs) (board_held board held after e) ∙ applied cvs
    ∙ ap (λ (s : BoardState). after_packet (board_on_tracks s cvs) packet) same

pub board_restarted : (board : DccBoard) (held : HeldBoard board) (before state after : BoardState) (cvs : List ℕ)
    → board ≡ board_numbers after → state ≡ before
    → board_on_tracks after cvs ≡ after_power_up (board_on_tracks state cvs)
    → board_on_tracks held.0 cvs ≡ after_power_up (board_on_tracks before cvs)
board_restarted board held before state after cvs e same restarted =
    ap (λ (s : BoardState). board_on_tracks s cvs) (board_held board held after e) ∙ restarted
    ∙ ap (λ (s : BoardState). after_power_up (board_on_tracks s cvs)) same

pub board_cv_set : (board : DccBoard) (held now : HeldBoard board) (old cvs : List ℕ)
    → board_on_tracks now.0 cvs ≡ with_new_cvs (board_on_tracks held.0 old) cvs
board_cv_set board held now old cvs =
    ap (λ (s : BoardState). board_on_tracks s cvs) (board_held board now held.0 held.1)
