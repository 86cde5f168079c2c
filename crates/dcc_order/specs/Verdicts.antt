-- The first difference of two lists of packets for a decoder.
use Rattle.std.specs.Prelude.{ℕ, ◌+◌, ◌≡◌, ◌≢◌, ◌↔◌, ◌⊎◌, List, Contains}
use Rattle.dcc_packet.specs.declared.packet.Packet.{Packet}
use Rattle.dcc_regs.specs.declared.register.Who.{Who}
use Rattle.dcc_regs.specs.Conflict.{Conflict}
use Rattle.dcc_order.specs.declared.verdict.Verdict.{Verdict}
use Rattle.dcc_order.specs.declared.verdict.Verdict.TheVariants.{Alike, Writes, Members, Order}
use Rattle.dcc_order.specs.AlikeLists.{Cut, LastBlock, Block, cut_for, turns}

-- blocks `left` and `right` have the same set of packets. This is the field `members` of
-- `AlikeBlocks`.
abbrev pub SameMembers : List Packet → List Packet → Type 0
SameMembers left right = (p : Packet) → Contains left p ↔ Contains right p

-- every two conflicting packets of block `left` alternate in the same way in blocks `left` and
-- `right`. This is the field `order` of `AlikeBlocks`.
abbrev pub SameOrder : List Packet → List Packet → Type 0
SameOrder left right =
    (p q : Packet) → Contains left p → Contains left q → Conflict p q → turns p q left ≡ turns p q right

-- `verdict` names the difference of the blocks `left` and `right`, which have number `k`. If the
-- blocks are alike, the property `further` holds.
abbrev pub BlocksVerdict : ℕ → List Packet → List Packet → Verdict → Type 0 → Type 0
BlocksVerdict k left right verdict further =
    (¬ SameMembers left right × (verdict ≡ Members k))
    ⊎ ((SameMembers left right × ¬ SameOrder left right × (verdict ≡ Order k))
    ⊎ (SameMembers left right × SameOrder left right × further))

-- `verdict` is the verdict on two cut lists. The first block of each list has number `k`.
abbrev pub IsVerdictFrom : ℕ → Cut → Cut → Verdict → Type 0
IsVerdictFrom k (LastBlock left) (LastBlock right) verdict = BlocksVerdict k left right verdict (verdict ≡ Alike)
IsVerdictFrom k (Block left write lefts) (Block right other rights) verdict =
    BlocksVerdict k left right verdict
    (((write ≢ other) × (verdict ≡ Writes)) ⊎ ((write ≡ other) × IsVerdictFrom (k + 1) lefts rights verdict))
IsVerdictFrom k (LastBlock left) (Block right other rights) verdict =
    BlocksVerdict k left right verdict (verdict ≡ Writes)
IsVerdictFrom k (Block left write lefts) (LastBlock right) verdict =
    BlocksVerdict k left right verdict (verdict ≡ Writes)

-- `verdict` is the verdict on the lists `left` and `right` for decoder `who`
abbrev pub IsVerdict : Who → List Packet → List Packet → Verdict → Type 0
IsVerdict who left right verdict = IsVerdictFrom 0 (cut_for who left) (cut_for who right) verdict
