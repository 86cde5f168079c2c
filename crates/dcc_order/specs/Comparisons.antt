-- The state of a comparison of two lists, and the lists that this state represents.
use Rattle.std.specs.Prelude.{ℕ, zero, suc, ◌+◌, ◌≡◌, ◌⊎◌, Bool, true, false, List, [], Option, Some, None, is_none}
use Rattle.std.specs.Prelude.{fold, length}
use Rattle.dcc_packet.specs.declared.packet.Packet.{Packet}
use Rattle.dcc_regs.specs.declared.register.Who.{Who}
use Rattle.dcc_regs.specs.Heard.{heard}
use Rattle.dcc_regs.specs.Result.{is_repeated}
use Rattle.dcc_order.specs.declared.comparison.Comparison.{Comparison}
use Rattle.dcc_order.specs.declared.given_list.GivenList.{GivenList}
use Rattle.dcc_order.specs.declared.last_heard.LastHeard.{LastHeard}
use Rattle.dcc_order.specs.declared.verdict.Verdict.{Verdict}
use Rattle.dcc_order.specs.declared.verdict.Verdict.TheVariants.{Alike, Members, Order}
use Rattle.dcc_order.specs.declared.wants.Wants.{Wants}
use Rattle.dcc_order.specs.declared.wants.Wants.TheVariants.{Left, Right, Done}
use Rattle.dcc_order.specs.AlikeLists.{Cut, LastBlock, Block, cut_for, AlikeBlocks}
use Rattle.dcc_order.specs.Verdicts.{SameMembers, SameOrder, IsVerdictFrom}
use Rattle.dcc_order.specs.GivenLists.{Lists, IsVerdictOfAll}

-- the `LastHeard` of a list in which no packet was heard
abbrev pub nothing_heard : LastHeard
nothing_heard = record { packet = None; is_second = false }

-- the `LastHeard` of a list after one more packet `p`: the packet `p`, and true if the packet
-- before `p` equals `p`. `before` is the `LastHeard` of the list without `p`.
abbrev pub heard_next : LastHeard → Packet → LastHeard
heard_next before p = record { packet = Some p; is_second = is_repeated before.packet p }

-- the `LastHeard` of the list `packets`: the last packet, and true if the packet before the last
-- packet equals the last packet
abbrev pub last_heard : List Packet → LastHeard
last_heard packets = fold heard_next nothing_heard packets

-- the `GivenList` of a list after one more packet `p`, which the decoder hears. `list` is the
-- `GivenList` without `p`.
abbrev pub with_heard : GivenList → Packet → GivenList
with_heard list p = record { given = list.given + 1; last = heard_next list.last p }

-- the cut list that begins with `block`. If `write` is a packet, it ends `block`, and the cut list
-- `rest` follows. If `write` is `None`, `block` is the last block.
abbrev pub cut_then : List Packet → Option Packet → Cut → Cut
cut_then block None rest = LastBlock block
cut_then block (Some write) rest = Block block write rest

-- the cut list with one block, `block`. If `end` is a packet, this write ends `block`, and an empty
-- last block follows.
abbrev pub open_cut : List Packet → Option Packet → Cut
open_cut block end = cut_then block end (LastBlock [])

-- Let two cut lists have `left` and `right` as their blocks with number `k`, and let all earlier
-- blocks be alike. Then `verdict` is the verdict on the cut lists. The write `write` ends the block
-- `left`, and `other` ends `right`. A block without a write is the last block.
abbrev pub IsVerdictAtEnds : ℕ → List Packet → Option Packet → List Packet → Option Packet → Verdict → Type 0
IsVerdictAtEnds k left write right other verdict =
    (lefts rights : Cut) → IsVerdictFrom k (cut_then left write lefts) (cut_then right other rights) verdict

-- both blocks end with a write, and the writes `write` and `other` are equal
abbrev pub EndAlike : Option Packet → Option Packet → Type 0
EndAlike (Some write) (Some other) = write ≡ other
EndAlike (Some write) None = ⊥
EndAlike None (Some other) = ⊥
EndAlike None None = ⊥

-- blocks `left` and `right` with number `k` differ, and `verdict` names this difference
abbrev pub BlocksDiffer : ℕ → List Packet → List Packet → Verdict → Type 0
BlocksDiffer k left right verdict =
    (¬ SameMembers left right × (verdict ≡ Members k))
    ⊎ (SameMembers left right × ¬ SameOrder left right × (verdict ≡ Order k))

-- the cut lists `x` and `y` begin with `k` blocks that are alike, and equal writes end these
-- blocks. The cut lists `u` and `w` are the remaining parts of `x` and `y`.
abbrev pub AlikeUpTo : ℕ → Cut → Cut → Cut → Cut → Type 0
AlikeUpTo zero x y u w = (x ≡ u) × (y ≡ w)
AlikeUpTo (suc k) (Block left write x) (Block right other y) u w =
    AlikeBlocks left right × (write ≡ other) × AlikeUpTo k x y u w
AlikeUpTo (suc k) (LastBlock left) y u w = ⊥
AlikeUpTo (suc k) (Block left write x) (LastBlock right) u w = ⊥

-- `list` has the number of `packets` and the last packet that decoder `who` heard of them
pub record HasCounted (who : Who) (list : GivenList) (packets : List Packet) : Type 0 where
  pub given : list.given ≡ length packets
  pub last : list.last ≡ last_heard (heard who packets)

-- the comparison `c` of `lists` has no verdict. The blocks before block `c.block` are alike. The
-- comparison stores block `c.block` of the left list, which `left_end` ends if it is a write, and
-- the last block of the right list. `left_ended` is true if the left list has ended.
pub record HasNoVerdict (c : Comparison) (lists : Lists) (left_end : Option Packet) (left_ended : Bool) : Type 0 where
  pub left_open : lists.left_ended ≡ left_ended
  pub right_open : lists.right_ended ≡ false
  pub up_to : AlikeUpTo c.block (cut_for c.who lists.left) (cut_for c.who lists.right) (open_cut c.held.first left_end)
      (LastBlock c.held.second)

-- `verdict` is the verdict on every two lists that begin with the prefixes in `lists`. If the
-- verdict is `Alike`, both lists have ended.
pub record Settled (c : Comparison) (lists : Lists) (verdict : Verdict) : Type 0 where
  pub of_all : IsVerdictOfAll c.who lists verdict
  pub both_ended : verdict ≡ Alike → (lists.left_ended ≡ true) × (lists.right_ended ≡ true)

-- the comparison `c` of `lists` waits for a packet of a list, or has a verdict. If it waits for the
-- right list, a write or the end of the left list has ended the left block.
abbrev pub Stage : Wants → Comparison → Lists → Type 0
Stage Left c lists = HasNoVerdict c lists None false
Stage Right c lists = HasNoVerdict c lists c.left_end (is_none c.left_end)
Stage (Done verdict) c lists = Settled c lists verdict

-- the comparison `c` represents `lists`: `c` is the state of a comparer that was given these lists
pub record ComparerRepresents (c : Comparison) (lists : Lists) : Type 0 where
  pub left : HasCounted c.who c.left lists.left
  pub right : HasCounted c.who c.right lists.right
  pub stage : Stage c.wants c lists
