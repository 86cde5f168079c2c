-- The state that the C structure of an accessory decoder stores. There is at most one such state.
use Rattle.std.specs.Prelude.{◌≡◌, ℕ, Bool, List}
use Rattle.std.specs.Coded.{Coded, Coded-set, code_by, coded×, coded_ℕ, coded_bool, coded_list}
use Rattle.std.proofs.Common.{◌∙◌, sym, ap, subst, refl}
use Rattle.dcc_packet.proofs.Same.{same_board}
use Rattle.dcc_regs.specs.declared.board_state.BoardState.{BoardState}
use Rattle.dcc_c.specs.declared.board.DccBoard.{DccBoard}
use Rattle.dcc_c.specs.Boards.{board_numbers}

-- the state of the accessory decoder with the C structure `n`, and a proof that `n` stores it
abbrev pub HeldBoard : DccBoard → Type 0
HeldBoard n = (state : BoardState) × (n ≡ board_numbers state)

by_parts : (a b : BoardState) → a.board ≡ b.board → a.outs ≡ b.outs → a.positions ≡ b.positions
    → a.aspects ≡ b.aspects → a ≡ b
by_parts a b board outs positions aspects = rw (board, outs, positions, aspects) refl

-- two states that one structure stores are equal
pub one_board : (a b : BoardState) → board_numbers a ≡ board_numbers b → a ≡ b
one_board a b e =
    by_parts a b (same_board a.board b.board (ap (λ (n : DccBoard). n.number) e)) (ap (λ (n : DccBoard). n.outs) e)
    (ap (λ (n : DccBoard). n.positions) e) (ap (λ (n : DccBoard). n.aspects) e)

board_code : Coded DccBoard
board_code =
    code_by (ℕ × (ℕ × (List Bool × List ℕ)))
    (coded× coded_ℕ (coded× coded_ℕ (coded× (coded_list coded_bool) (coded_list coded_ℕ))))
    (λ n. (n.number, (n.outs, (n.positions, n.aspects))))
    (λ p. record { number = p.0; outs = p.1.0; positions = p.1.1.0; aspects = p.1.1.1 }) (λ _. refl)

same_held : (n : DccBoard) (a b : BoardState) → a ≡ b → (h : n ≡ board_numbers a) (k : n ≡ board_numbers b)
    → ◌≡◌ {A = HeldBoard n} (a, h) (b, k)
same_held n a b e =
    subst (λ (s : BoardState). (h : n ≡ board_numbers a) (k : n ≡ board_numbers s)
    → ◌≡◌ {A = HeldBoard n} (a, h) (s, k)) e
    (λ h k. ap (λ (m : n ≡ board_numbers a). (a, m)) (Coded-set board_code _ _ h k))

-- a structure stores at most one state
pub HeldBoard-prop : (n : DccBoard) → IsProp (HeldBoard n)
HeldBoard-prop n a b = same_held n a.0 b.0 (one_board a.0 b.0 (sym a.1 ∙ b.1)) a.1 b.1
