-- A verdict that is settled stays, whatever packets follow on a side that has not ended.
use Rattle.std.proofs.Common.{◌≡◌, ◌∙◌, refl, sym, ap, subst, Bool, true, false, List, [], ◌++◌, append-nil, ℕ, zero}
use Rattle.std.proofs.Common.{suc, ◌+◌, inl, inr, Option, Some, None, arith}
use Rattle.std.specs.Prelude.{Contains}
use Rattle.std.proofs.lemmas.List.Elements.{Contains-append_left}
use Rattle.dcc_packet.specs.declared.packet.Packet.{Packet}
use Rattle.dcc_regs.specs.declared.register.Who.{Who}
use Rattle.dcc_order.specs.declared.verdict.Verdict.{Verdict}
use Rattle.dcc_order.specs.declared.verdict.Verdict.TheVariants.{Alike, Members}
use Rattle.dcc_order.specs.AlikeLists.{Cut, LastBlock, Block, cut_for}
use Rattle.dcc_order.specs.Verdicts.{SameMembers, IsVerdictFrom}
use Rattle.dcc_order.specs.OneMore.{GoesOnAs}
use Rattle.dcc_order.specs.GivenLists.{MayFollow}
use Rattle.dcc_order.specs.Comparisons.{AlikeUpTo, open_cut, cut_then, IsVerdictAtEnds}
use Rattle.dcc_order.proofs.AlikeVerdicts.{cuts_alike}
use Rattle.dcc_order.proofs.OneMorePacket.{finished_blocks_stay}

-- how the cut of a list that has ended, or has not, goes on
abbrev pub Continues : Bool → Cut → Cut → Type 0
Continues true x y = y ≡ x
Continues false x y = GoesOnAs x y

-- a verdict is settled where it is that of every two cut lists that continue these
abbrev pub SettledFrom : Bool → Bool → ℕ → Cut → Cut → Verdict → Type 0
SettledFrom left_ended right_ended k x y verdict =
    (u w : Cut) → Continues left_ended x u → Continues right_ended y w → IsVerdictFrom k u w verdict

-- a side is finished where a write ends its block, or the list has ended
abbrev pub Finished : Bool → Option Packet → Type 0
Finished ended end = end ≡ None → ended ≡ true

-- a cut list that begins with a finished block goes on so
opened : (ended : Bool) (block : List Packet) (end : Option Packet) (x y : Cut) → Finished ended end
    → Continues ended (cut_then block end x) y → (rest : Cut) × (y ≡ cut_then block end rest) × Continues ended x rest
opened true block end x y f e = (x, e, refl)
opened false block None x y f g = cc (f refl)
opened false block (Some write) x (LastBlock longer) f g = absurd g
opened false block (Some write) x (Block b w y) f g = (y, rw (g.0, g.1) refl, g.2)

-- behind alike blocks a verdict that is settled is settled for the whole
pub settled_behind : (le re : Bool) (j k n : ℕ) (x y u w : Cut) (v : Verdict) → n ≡ k + j → AlikeUpTo j x y u w
    → SettledFrom le re n u w v → SettledFrom le re k x y v
settled_behind le re zero k n x y u w v e up s = let is : k ≡ n = omega arith in rw (up.0, up.1, is) s
settled_behind le re (suc j) k n (Block left write x) (Block right other y) u w v e up s = λ p q f g.
    let first = opened le left (Some write) x p (λ e. cc) f in
    let second = opened re right (Some other) y q (λ e. cc) g in
    let behind = settled_behind le re j (k + 1) n x y u w v (omega arith) up.2 s first.0 second.0 first.2 second.2 in
    rw (first.1, second.1) (inr (inr (up.0.members, up.0.order, inr (up.1, behind))))
settled_behind le re (suc j) k n x y u w v e up s = absurd up

-- a verdict on two finished blocks is settled
pub settled_at_ends : (le re : Bool) (k : ℕ) (left right : List Packet) (w u : Option Packet) (v : Verdict)
    → Finished le w → Finished re u →
    IsVerdictAtEnds k left w right u v → SettledFrom le re k (open_cut left w) (open_cut right u) v
settled_at_ends le re k left right w u v f g d = λ p q h i.
    let first = opened le left w (LastBlock []) p f h in
    let second = opened re right u (LastBlock []) q g i in
    rw (first.1, second.1) (d first.0 second.0)

-- the verdict at two ends is Alike only where both lists end there
pub alike_at_ends : (k : ℕ) (left right : List Packet) (w u : Option Packet) → IsVerdictAtEnds k left w right u Alike
    → (w ≡ None) × (u ≡ None)
alike_at_ends k left right None None d = (refl, refl)
alike_at_ends k left right None (Some u) d =
    absurd ((cuts_alike k (LastBlock left) (Block right u (LastBlock [])) Alike (d (LastBlock []) (LastBlock []))).0
    refl)
alike_at_ends k left right (Some w) None d =
    absurd ((cuts_alike k (Block left w (LastBlock [])) (LastBlock right) Alike (d (LastBlock []) (LastBlock []))).0
    refl)
alike_at_ends k left right (Some w) (Some u) d = absurd ((cuts_alike k (Block left w (LastBlock []))
    (Block right u (Block [] u (LastBlock []))) Alike (d (LastBlock []) (Block [] u (LastBlock [])))).0 refl).2

-- a packet of the second block that is not in the first, which is finished
pub foreign_packet : (k : ℕ) (left right : List Packet) (x : Packet) (le : Bool) (w : Option Packet) → Finished le w
    → (Contains left x → ⊥) → Contains right x →
    SettledFrom le false k (open_cut left w) (LastBlock right) (Members k)
foreign_packet k left right x le w f none here = λ p q h i.
    let first = opened le left w (LastBlock []) p f h in
    rw first.1 (by_end w first.0 q i)
  where
    differ : (longer : List Packet) → (more : List Packet) × (longer ≡ right ++ more) → ¬ SameMembers left longer
    differ longer m same =
        none ((same x).1 (subst (λ l. Contains l x) (sym m.1) (Contains-append_left right m.0 x here)))

    by_end : (w : Option Packet) (rest q : Cut) → GoesOnAs (LastBlock right) q
        → IsVerdictFrom k (cut_then left w rest) q (Members k)
    by_end None rest (LastBlock longer) i = inl (differ longer i, refl)
    by_end (Some w) rest (LastBlock longer) i = inl (differ longer i, refl)
    by_end None rest (Block longer u further) i = inl (differ longer i, refl)
    by_end (Some w) rest (Block longer u further) i = inl (differ longer i, refl)

pub continues : (who : Who) (ended : Bool) (l more : List Packet) → MayFollow ended more
    → Continues ended (cut_for who l) (cut_for who (l ++ more))
continues who true l more e = ap (λ m. cut_for who (l ++ m)) e ∙ ap (cut_for who) (append-nil l)
continues who false l more e = finished_blocks_stay who l more
