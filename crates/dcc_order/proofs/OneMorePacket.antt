-- What one more packet does to a cut list.
use Rattle.std.proofs.Common.{◌≡◌, ◌∙◌, refl, sym, ap, Bool, true, false, cond, List, [], ◌∷◌, ◌++◌, append-nil, inl}
use Rattle.std.proofs.Common.{inr, arith, append_assoc}
use Rattle.std.proofs.Math.Bool.{and-false, and-true}
use Rattle.std.proofs.lemmas.Bool.{cases_Bool}
use Rattle.std.specs.Prelude.{◌&&◌, fold, if◌then◌else◌}
use Rattle.dcc_order.proofs.AlikeBlocks.{same_tells}
use Rattle.dcc_order.proofs.Contained.{snoc}
use Rattle.std.proofs.lemmas.List.Elements.{filter-append}
use Rattle.std.proofs.lemmas.List.Sums.{fold-append}
use Rattle.dcc_packet.specs.declared.packet.Packet.{Packet}
use Rattle.dcc_packet.specs.SamePacket.{same}
use Rattle.dcc_regs.specs.Writes.{is_own_write}
use Rattle.dcc_regs.specs.Heard.{hears, heard}
use Rattle.dcc_order.specs.AlikeLists.{without_third_copies, Cut, LastBlock, Block, cut_more, cut_for}
use Rattle.dcc_order.specs.OneMore.{ends_with_two, OneMorePacket, GoesOnAs, FinishedBlocksStay}

-- a cut list with packet `p` added at the start of its first block
abbrev pub in_first_block : Packet → Cut → Cut
in_first_block p (LastBlock block) = LastBlock (p ∷ block)
in_first_block p (Block block write rest) = Block (p ∷ block) write rest

-- a list of packets as a cut list, from the first packet on
abbrev pub cut : List Packet → Cut
cut [] = LastBlock []
cut (p ∷ later) = if is_own_write p then Block [] p (cut later) else in_first_block p (cut later)

cut_more-in_first : (q : Packet) (x : Cut) (p : Packet)
    → in_first_block q (cut_more x p) ≡ cut_more (in_first_block q x) p
cut_more-in_first q (LastBlock block) p = elim (cases_Bool (is_own_write p)) [ inl e ↦ rw e refl | inr e ↦ rw e refl ]
cut_more-in_first q (Block block write rest) p = refl

cut-more : (l : List Packet) (p : Packet) → cut (l ++ p ∷ []) ≡ cut_more (cut l) p
cut-more [] p = refl
cut-more (q ∷ l) p = elim (cases_Bool (is_own_write q)) [
  | inl e ↦ rw (e, cut-more l p) refl
  | inr e ↦ rw (e, cut-more l p) (cut_more-in_first q (cut l) p)
]

-- packets that are added one after another give the cut list from the first packet on
pub cut_is : (l : List Packet) → fold cut_more (LastBlock []) l ≡ cut l
cut_is = snoc (λ l. fold cut_more (LastBlock []) l ≡ cut l) refl
    (λ l p e. rw (fold-append cut_more (LastBlock []) l (p ∷ []), cut-more l p, e) refl)

left_out : (a b : Bool) (l : List Packet) (q p : Packet)
    → cond a (cond b l (l ++ p ∷ [])) (q ∷ cond b l (l ++ p ∷ []))
    ≡ cond b (cond a l (q ∷ l)) (cond a l (q ∷ l) ++ p ∷ [])
left_out true true l q p = refl
left_out false true l q p = refl
left_out a b l q p = refl

capped-more : (l : List Packet) (p : Packet)
    → without_third_copies (l ++ p ∷ []) ≡ cond (is_own_write p && ends_with_two l p) (without_third_copies l)
    (without_third_copies l ++ p ∷ [])
capped-more [] p = rw (and-false (is_own_write p)) refl
capped-more (q ∷ []) p =
    rw (and-false (same q p), and-false (is_own_write q), and-false (is_own_write p)) refl
capped-more (q ∷ r ∷ []) p =
    rw (
      and-true (same q p),
      and-false (same r p),
      and-false (same q r),
      and-false (is_own_write q),
      and-false (is_own_write r),
      and-false (is_own_write p),
    )
    (grind (arith, same_tells q r, same_tells q p, same_tells p q, same_tells p r, cases_Bool (is_own_write p)))
capped-more (q ∷ r ∷ s ∷ l) p =
    rw (capped-more (r ∷ s ∷ l) p, and-true (same q s)) (left_out (is_own_write q && (same q r && same q s))
    (is_own_write p && ends_with_two (r ∷ s ∷ l) p) (without_third_copies (r ∷ s ∷ l)) q p)

pub one_more_packet : OneMorePacket
one_more_packet who l p = rw (filter-append (hears who) l (p ∷ [])) (elim (cases_Bool (hears who p)) [
  | inl e ↦ rw (e, capped-more (heard who l) p) (elim (cases_Bool (is_own_write p && ends_with_two (heard who l) p)) [
    | inl two ↦ rw two refl
    | inr apart ↦ rw apart (fold-append cut_more (LastBlock []) (without_third_copies (heard who l)) (p ∷ []))
  ])
  | inr e ↦ rw (e, append-nil (heard who l)) refl
])

goes_on_itself : (x : Cut) → GoesOnAs x x
goes_on_itself (LastBlock block) = ([], sym (append-nil block))
goes_on_itself (Block block write rest) = (refl, refl, goes_on_itself rest)

goes_on_more : (x y : Cut) (p : Packet) → GoesOnAs x y → GoesOnAs x (cut_more y p)
goes_on_more (LastBlock a) (LastBlock b) p (m, e) = elim (cases_Bool (is_own_write p)) [
  | inl own ↦ rw own (m, e)
  | inr other ↦ rw other (m ++ p ∷ [], ap (λ l. l ++ p ∷ []) e ∙ append_assoc a m (p ∷ []))
]
goes_on_more (LastBlock a) (Block b write y) p g = g
goes_on_more (Block a own x) (Block b write y) p g = (g.0, g.1, goes_on_more x y p g.2)
goes_on_more x y p g = absurd g

pub finished_blocks_stay : FinishedBlocksStay
finished_blocks_stay who l = snoc (λ more. GoesOnAs (cut_for who l) (cut_for who (l ++ more)))
    (rw (append-nil l) (goes_on_itself (cut_for who l)))
    (λ more p g. rw (← append_assoc l more (p ∷ []), one_more_packet who (l ++ more) p)
    (by_case (hears who p) (is_own_write p && ends_with_two (heard who (l ++ more)) p) (cut_for who (l ++ more)) p g))
  where
    by_case : (s t : Bool) (y : Cut) (p : Packet) → GoesOnAs (cut_for who l) y
        → GoesOnAs (cut_for who l) (cond s (cond t y (cut_more y p)) y)
    by_case true false y p g = goes_on_more (cut_for who l) y p g
    by_case true true y p g = g
    by_case false t y p g = g
