-- One more packet, or an end, of the lists that a comparison stands for.
use Rattle.std.proofs.Common.{ℕ, zero, suc, ◌+◌, ◌^◌, ◌<◌, ◌≤◌, ◌≡◌, ◌∙◌, refl, sym, ap, subst, Bool, true, false, cond}
use Rattle.std.proofs.Common.{inl, inr, List, [], ◌∷◌, ◌++◌, Option, Some, None, is_none, length, arith, add-one}
use Rattle.std.specs.Prelude.{Contains, ◌&&◌, fold}
use Rattle.std.specs.List.{starts_with}
use Rattle.std.proofs.Math.Nat.{suc-min-suc}
use Rattle.std.proofs.lemmas.Bool.{cases_Bool}
use Rattle.std.proofs.lemmas.List.{length-append}
use Rattle.std.proofs.lemmas.List.Sums.{fold-append, length-filter, count_by-le-length}
use Rattle.std.proofs.lemmas.List.Elements.{filter-append, Contains-push}
use Rattle.dcc_packet.specs.declared.packet.Packet.{Packet}
use Rattle.dcc_packet.specs.SamePacket.{same}
use Rattle.dcc_regs.specs.declared.register.Who.{Who}
use Rattle.dcc_regs.specs.Heard.{hears, heard}
use Rattle.dcc_regs.specs.Result.{is_repeated}
use Rattle.dcc_regs.specs.Writes.{is_own_write}
use Rattle.dcc_order.specs.declared.comparison.Comparison.{Comparison}
use Rattle.dcc_order.specs.declared.given_list.GivenList.{GivenList}
use Rattle.dcc_order.specs.declared.last_heard.LastHeard.{LastHeard}
use Rattle.dcc_order.specs.declared.verdict.Verdict.{Verdict}
use Rattle.dcc_order.specs.declared.verdict.Verdict.TheVariants.{Members, Alike}
use Rattle.dcc_order.specs.declared.wants.Wants.{Wants}
use Rattle.dcc_order.specs.declared.wants.Wants.TheVariants.{Left, Right, Done}
use Rattle.dcc_order.specs.AlikeLists.{Cut, LastBlock, Block, without_third_copies, cut_more, cut_for}
use Rattle.dcc_order.specs.AlikeLists.{AlikeBlocks}
use Rattle.dcc_order.specs.OneMore.{ends_with_two}
use Rattle.dcc_order.specs.GivenLists.{Lists, with_item, IsVerdictOfAll, writes_in, open_blocks_len, most_held}
use Rattle.dcc_order.specs.Comparisons.{ComparerRepresents, HasCounted, HasNoVerdict, Settled, Stage}
use Rattle.dcc_order.specs.Comparisons.{AlikeUpTo, open_cut}
use Rattle.dcc_order.specs.Comparisons.{EndAlike, IsVerdictAtEnds, last_heard, heard_next, nothing_heard, with_heard}
use Rattle.dcc_order.specs.InStep.{BecomesBy}
use Rattle.dcc_order.specs.Inner.ComparisonSteps.{EndsRight}
use Rattle.dcc_order.proofs.AlikeBlocks.{same_tells}
use Rattle.dcc_order.proofs.AlikeCuts.{flat, flat-cut}
use Rattle.dcc_order.proofs.OneMorePacket.{one_more_packet}
use Rattle.dcc_order.proofs.SettledVerdicts.{SettledFrom, Finished, settled_behind, settled_at_ends, alike_at_ends}
use Rattle.dcc_order.proofs.SettledVerdicts.{foreign_packet, continues}

-- whether a packet comes behind two copies of it
abbrev is_third : LastHeard → Packet → Bool
is_third last p = last.is_second && is_repeated last.packet p

-- what was heard last tells whether a list ends with two copies of a packet
two_at_end : (before : LastHeard) (q r : Packet) (l : List Packet) (p : Packet)
    → ends_with_two (q ∷ r ∷ l) p ≡ is_third (fold heard_next before (q ∷ r ∷ l)) p
two_at_end before q r [] p = grind (arith, same_tells p q, same_tells p r, same_tells q r, same_tells r p)
two_at_end before q r (s ∷ l) p = two_at_end (heard_next before q) r s l p

ends_twice : (l : List Packet) (p : Packet) → ends_with_two l p ≡ is_third (last_heard l) p
ends_twice (q ∷ r ∷ l) p = two_at_end nothing_heard q r l p
ends_twice l p = refl

-- a cut list with one more packet, unless that is a third copy
abbrev one_cut : Bool → Packet → Cut → Cut
one_cut third p x = cond third x (cut_more x p)

-- one more packet of either list
up_to_more : (third : Bool) (p : Packet) (k : ℕ) (x y u w : Cut) → AlikeUpTo k x y u w
    → AlikeUpTo k (one_cut third p x) y (one_cut third p u) w × AlikeUpTo k x (one_cut third p y) u (one_cut third p w)
up_to_more true p k x y u w up = (up, up)
up_to_more third p zero x y u w up = ((ap (one_cut third p) up.0, up.1), (up.0, ap (one_cut third p) up.1))
up_to_more third p (suc k) (Block left write x) (Block right other y) u w up =
    let more = up_to_more third p k x y u w up.2 in ((up.0, up.1, more.0), (up.0, up.1, more.1))
up_to_more third p (suc k) x y u w up = absurd up

-- one more packet that the decoder hears: what is stored of its list then, and the cut list
module _ {who : Who} {list : GivenList} {l : List Packet} (s : HasCounted who list l) (p : Packet)
    (hear : hears who p ≡ true) where
  counted : HasCounted who (with_heard list p) (l ++ p ∷ [])
  counted = record {
    given = omega (arith, s.given, length-append l (p ∷ []));
    last = rw (
      filter-append (hears who) l (p ∷ []),
      hear,
      fold-append heard_next nothing_heard (heard who l) (p ∷ []),
      s.last,
    ) refl;
  }

  its_cut : (third : Bool) → (is_own_write p && is_third list.last p) ≡ third
      → cut_for who (l ++ p ∷ []) ≡ one_cut third p (cut_for who l)
  its_cut third e = rw (one_more_packet who l p, hear, ends_twice (heard who l) p, ← s.last, e) refl

-- the end of a list is alike with no end
no_end_alike : (end : Option Packet) → EndAlike end None → ⊥
no_end_alike None ends = ends
no_end_alike (Some write) ends = ends

-- where blocks that are alike end with one write, the next ones begin
up_to_next : (end : Option Packet) (k : ℕ) (x y : Cut) (left right : List Packet) (p : Packet)
    → AlikeUpTo k x y (open_cut left end) (Block right p (LastBlock [])) → AlikeBlocks left right
    → EndAlike end (Some p)
    → (is_none end ≡ false) × AlikeUpTo (suc k) x y (LastBlock []) (LastBlock [])
up_to_next None k x y left right p up alike ends = absurd ends
up_to_next end zero x y left right p up alike ends = (refl, rw (up.0, up.1) (alike, ends, (refl, refl)))
up_to_next end (suc k) (Block a b x) (Block d e y) left right p up alike ends =
    (refl, (up.0, up.1, (up_to_next end k x y left right p up.2 alike ends).1))
up_to_next end (suc k) x y left right p up alike ends = absurd up

-- a list without third copies is no longer than the list
length-capped : (l : List Packet) → length (without_third_copies l) ≤ length l
length-capped [] = omega arith
length-capped (p ∷ l) = elim (cases_Bool (is_own_write p && starts_with same l (p ∷ p ∷ []))) [
  | inl e ↦ rw e (omega (arith, length-capped l))
  | inr e ↦ rw e (omega (arith, length-capped l))
]

-- no more packets in the blocks behind alike blocks, and no more alike blocks, than packets
up_to_fits : (k : ℕ) (x y u w : Cut) → AlikeUpTo k x y u w
    → (length (flat u) ≤ length (flat x)) × (k + length (flat w) ≤ length (flat y))
up_to_fits zero x y u w up = rw (up.0, up.1) (omega arith, omega arith)
up_to_fits (suc k) (Block left write x) (Block right other y) u w up =
    let fits = up_to_fits k x y u w up.2 in (
      omega (arith, fits.0, length-append left (write ∷ flat x)),
      omega (arith, fits.1, length-append right (other ∷ flat y)),
    )
up_to_fits (suc k) x y u w up = absurd up

cut_fits : (who : Who) (l : List Packet) → length (flat (cut_for who l)) ≤ length l
cut_fits who l = omega (
  arith,
  ap length (flat-cut (without_third_copies (heard who l))),
  length-capped (heard who l),
  length-filter (hears who) l,
  count_by-le-length (hears who) l,
)

-- the open blocks are those behind the alike ones
open_behind : (k : ℕ) (x y u w : Cut) → AlikeUpTo k x y u w → open_blocks_len x y ≡ open_blocks_len u w
open_behind zero x y u w up = rw (up.0, up.1) refl
open_behind (suc k) (Block left write x) (Block right other y) u w up =
    rw (suc-min-suc (writes_in x) (writes_in y)) (open_behind k x y u w up.2)
open_behind (suc k) x y u w up = absurd up

-- a verdict that is settled for the open blocks is that of all lists that continue these
settled_for : (who : Who) (lists : Lists) (k : ℕ) (u w : Cut) (v : Verdict)
    → AlikeUpTo k (cut_for who lists.left) (cut_for who lists.right) u w →
    SettledFrom lists.left_ended lists.right_ended k u w v → IsVerdictOfAll who lists v
settled_for who lists k u w v up s = λ lefts rights f g.
    settled_behind lists.left_ended lists.right_ended k 0 k _ _ u w v (omega arith) up s _ _
    (continues who lists.left_ended lists.left lefts f) (continues who lists.right_ended lists.right rights g)

pub stage_of : {w : Wants} {c : Comparison} {lists : Lists} → ComparerRepresents c lists → c.wants ≡ w → Stage w c lists
stage_of {c = c} {lists = lists} s e = subst (λ w. Stage w c lists) e s.stage

-- a verdict is settled where both blocks have ended, the right one with a write or with its list
module _ {c : Comparison} {lists : Lists} (w : HasNoVerdict c lists c.left_end (is_none c.left_end)) where
  settled : (right : List Packet) (ended : Bool) (end : Option Packet) (v : Verdict)
      → IsVerdictAtEnds c.block c.held.first c.left_end c.held.second end v → Finished ended end →
      AlikeUpTo c.block (cut_for c.who lists.left) (cut_for c.who right) (open_cut c.held.first c.left_end)
      (open_cut c.held.second end) → Settled c (record lists { right = right; right_ended = ended }) v
  settled right ended end v verdict f up = record {
    of_all =
        settled_for c.who (record lists { right = right; right_ended = ended }) _ _ _ v up
        (settled_at_ends lists.left_ended ended c.block c.held.first c.held.second c.left_end end v
        (λ e. w.left_open ∙ ap is_none e) f verdict);
    both_ended = λ a.
        let ends = alike_at_ends c.block c.held.first c.held.second c.left_end end
        (subst (IsVerdictAtEnds c.block c.held.first c.left_end c.held.second end) a verdict) in
        (w.left_open ∙ ap is_none ends.0, f ends.1);
  }

-- one more packet that the decoder hears, by what it does to the block of its list
module _ {c : Comparison} {lists : Lists} (s : ComparerRepresents c lists) (p : Packet) (hear : hears c.who p ≡ true)
  where
    left_next : c.wants ≡ Left → (third : Bool) → (is_own_write p && is_third c.left.last p) ≡ third
        → AlikeUpTo c.block (cut_for c.who (lists.left ++ p ∷ [])) (cut_for c.who lists.right)
        (one_cut third p (LastBlock c.held.first)) (LastBlock c.held.second)
    left_next e third is = rw (its_cut s.left p hear third is) (up_to_more third p _ _ _ _ _ (stage_of s e).up_to).0

    right_next : c.wants ≡ Right → (third : Bool) → (is_own_write p && is_third c.right.last p) ≡ third
        → AlikeUpTo c.block (cut_for c.who lists.left) (cut_for c.who (lists.right ++ p ∷ []))
        (open_cut c.held.first c.left_end) (one_cut third p (LastBlock c.held.second))
    right_next e third is = rw (its_cut s.right p hear third is) (up_to_more third p _ _ _ _ _ (stage_of s e).up_to).1

    -- the packet of the left list is left out, ends the block or joins it
    pub left_given : c.wants ≡ Left → (own third : Bool) → is_own_write p ≡ own → is_third c.left.last p ≡ third
        → ComparerRepresents (record (cond own (cond third c (record c { left_end = Some p; wants = Right }))
        (record c { held = record c.held { first = c.held.first ++ p ∷ [] } })) { left = with_heard c.left p })
        (with_item Left (Some p) lists)
    left_given e true true own twice =
        rw e (search (s, stage_of s e, counted s.left p hear, left_next e true (rw (own, twice))))
    left_given e true false own apart =
        search (s, stage_of s e, counted s.left p hear, rw own at (left_next e false (rw (own, apart))))
    left_given e false third own any =
        rw e (search (s, stage_of s e, counted s.left p hear, rw own at (left_next e false (rw own))))

    pub right_left_out : c.wants ≡ Right → is_own_write p ≡ true → is_third c.right.last p ≡ true
        → ComparerRepresents (record c { right = with_heard c.right p }) (with_item Right (Some p) lists)
    right_left_out e own twice =
        rw e (search (s, stage_of s e, counted s.right p hear, right_next e true (rw (own, twice))))

    pub right_joined : c.wants ≡ Right → is_own_write p ≡ false → ComparerRepresents
        (record c { held = record c.held { second = c.held.second ++ p ∷ [] }; right = with_heard c.right p })
        (with_item Right (Some p) lists)
    right_joined e own =
        rw e (search (s, stage_of s e, counted s.right p hear, rw own at (right_next e false (rw own))))

    pub right_foreign : c.wants ≡ Right → is_own_write p ≡ false → (Contains c.held.first p → ⊥) → ComparerRepresents
        (record c { wants = Done (Members c.block); right = with_heard c.right p }) (with_item Right (Some p) lists)
    right_foreign e own none =
        let w = stage_of s e in
        let all = settled_for c.who (with_item Right (Some p) lists) _ _ _ (Members c.block)
        (rw own at (right_next e false (rw own)))
        (rw w.right_open (foreign_packet c.block c.held.first (c.held.second ++ p ∷ []) p lists.left_ended c.left_end
        (λ e. w.left_open ∙ ap is_none e) none (Contains-push c.held.second p))) in
        let apart : Members c.block ≡ Alike → ⊥ = λ a. cc in
        search (arith, s, counted s.right p hear, all, apart)

pub becomes : {c next : Comparison} {w : Wants} {item : Option Packet} → c.wants ≡ w → next.who ≡ c.who
    → ((lists : Lists) → ComparerRepresents c lists → ComparerRepresents next (with_item w item lists))
    → BecomesBy c item next
becomes e who stands = record { same_who = who; stands = λ lists s. rw e (stands lists s) }

-- a write ends the right block
pub right_ended : {c next : Comparison} (p : Packet) → c.wants ≡ Right → hears c.who p ≡ true → is_own_write p ≡ true
    → is_third c.right.last p ≡ false → EndsRight c (Some p) next
    → BecomesBy c (Some p) (record next { right = with_heard next.right p })
right_ended p e hear own apart (inl (v, verdict, is)) = rw is (becomes e refl (λ lists s.
    let up = rw own at (right_next s p hear e false (rw (own, apart))) in
    let done = settled (stage_of s e) (lists.right ++ p ∷ []) lists.right_ended (Some p) v verdict (λ e. cc) up in
    search (s, counted s.right p hear, done)))
right_ended {c = c} p e hear own apart (inr (alike, ends, is)) = rw is (becomes e refl (λ lists s.
    let w = stage_of s e in
    let up = rw own at (right_next s p hear e false (rw (own, apart))) in
    let begun = up_to_next c.left_end _ _ _ _ _ p up alike ends in
    search (arith, s, w, counted s.right p hear, rw (← add-one c.block) at begun.1, w.left_open ∙ begun.0)))

-- the end of the right list, which settles the verdict
pub right_list_ended : {c next : Comparison} → c.wants ≡ Right → EndsRight c None next → BecomesBy c None next
right_list_ended {c = c} e (inl (v, verdict, is)) = rw is (becomes e refl (λ lists s.
    let w = stage_of s e in search (s, settled w lists.right true None v verdict (λ e. refl) w.up_to)))
right_list_ended {c = c} e (inr (alike, ends, is)) = absurd (no_end_alike c.left_end ends)

-- the number of a block is no larger than the number of packets
pub block_given : {c : Comparison} {lists : Lists} → ComparerRepresents c lists → c.wants ≡ Right
    → c.block ≤ c.right.given
block_given {c = c} {lists = lists} s e = omega (
  arith,
  s.right.given,
  up_to_fits _ _ _ _ _ (stage_of s e).up_to,
  cut_fits c.who lists.right,
)

-- what is held is the two open blocks, and no block is longer than its list
abbrev HeldFits : Comparison → Lists → Type 0
HeldFits c lists = (length c.held.first + length c.held.second < 2 ^ 64)
    × (length c.held.first + length c.held.second ≡ most_held c.who lists)

pub held_fits : (c : Comparison) (lists : Lists) → ((v : Verdict) → c.wants ≡ Done v → ⊥) → c.left.given < 2 ^ 32
    → c.right.given < 2 ^ 32 → ComparerRepresents c lists → HeldFits c lists
held_fits c lists going left right s = by_wants c.wants s.stage going
  where
    held : (end : Option Packet) → (length c.held.first ≤ length (flat (open_cut c.held.first end)))
        × (length c.held.first + length c.held.second
        ≡ open_blocks_len (open_cut c.held.first end) (LastBlock c.held.second))
    held None = (omega arith, refl)
    held (Some write) = (omega (arith, length-append c.held.first (write ∷ [])), refl)

    fits : (end : Option Packet) {ended : Bool} → HasNoVerdict c lists end ended → HeldFits c lists
    fits end w =
        let few = up_to_fits _ _ _ _ _ w.up_to in (
          omega (
            arith,
            few,
            held end,
            s.left.given,
            s.right.given,
            cut_fits c.who lists.left,
            cut_fits c.who lists.right,
          ),
          (held end).1 ∙ sym (open_behind _ _ _ _ _ w.up_to),
        )

    by_wants : (w : Wants) → Stage w c lists → ((v : Verdict) → w ≡ Done v → ⊥) → HeldFits c lists
    by_wants Left w going = fits None w
    by_wants Right w going = fits c.left_end w
    by_wants (Done v) w going = absurd (going v refl)
