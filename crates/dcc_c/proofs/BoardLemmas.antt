-- The number of a board gives it back.
use Rattle.std.proofs.Common.{◌≡◌, ℕ, Ok, refl, ap}
use Rattle.dcc_packet.specs.declared.fault.PacketFault.TheVariants as faults
use Rattle.dcc_packet.specs.declared.accessory.Board.{Board}
use Rattle.dcc_packet.specs.Values.{board_of}
use Rattle.dcc_regs.specs.declared.board_state.BoardState.{BoardState}
use Rattle.dcc_regs.specs.declared.register.Who.TheVariants.{Board as BoardWho}
use Rattle.dcc_c.specs.declared.board.DccBoard.{DccBoard}
use Rattle.dcc_c.specs.Boards.{board_numbers}
use Rattle.dcc_packet.proofs.UpTo.{up_to_ok}

pub board_back : (number : ℕ) (board : Board) → number ≡ board.number → board_of number ≡ Ok board
board_back number board e =
    rw e (up_to_ok 511 board.number faults.Board (λ h. record { number = board.number; in_range = h }) board.in_range)

-- a state whose board and numbers these are
pub state_back : (board : Board) (numbers : DccBoard) (state : BoardState) → numbers ≡ board_numbers state
    → board ≡ state.board
    → record { board = board; outs = numbers.outs; positions = numbers.positions; aspects = numbers.aspects } ≡ state
state_back board numbers state e f = rw (e, f) refl

pub number_back : (numbers : DccBoard) (state : BoardState) → numbers ≡ board_numbers state
    → numbers.number ≡ state.board.number
number_back numbers state e = ap (λ (n : DccBoard). n.number) e

pub same_who : (a b : Board) → BoardWho a ≡ BoardWho b → a.number ≡ b.number
same_who a b e = let same : a ≡ b = cc in ap (λ (x : Board). x.number) same
