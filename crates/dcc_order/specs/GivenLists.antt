-- Two lists of packets that a comparer gets packet by packet, also before it has got their ends.
use Rattle.std.specs.Prelude.{ℕ, zero, suc, ◌+◌, ◌≡◌, min, Bool, true, false, List, [], ◌∷◌, ◌++◌, Option, Some, None}
use Rattle.std.specs.Prelude.{length}
use Rattle.dcc_packet.specs.declared.packet.Packet.{Packet}
use Rattle.dcc_regs.specs.declared.register.Who.{Who}
use Rattle.dcc_order.specs.declared.verdict.Verdict.{Verdict}
use Rattle.dcc_order.specs.declared.wants.Wants.{Wants}
use Rattle.dcc_order.specs.declared.wants.Wants.TheVariants.{Left, Right, Done}
use Rattle.dcc_order.specs.AlikeLists.{Cut, LastBlock, Block, cut_for}
use Rattle.dcc_order.specs.Verdicts.{IsVerdict}

-- the parts of two lists that a comparer has got. Each part is a prefix of its list. `left_ended`
-- and `right_ended` are true if the comparer has got the end of the list.
pub record Lists : Type 0 where
  pub left : List Packet
  pub left_ended : Bool
  pub right : List Packet
  pub right_ended : Bool

abbrev pub no_lists : Lists
no_lists = record { left = []; left_ended = false; right = []; right_ended = false }

-- `lists` after the comparer got the next item of the list that it waits for. The item is a packet,
-- or `None` for the end of the list.
abbrev pub with_item : Wants → Option Packet → Lists → Lists
with_item Left (Some p) lists = record lists { left = lists.left ++ p ∷ [] }
with_item Left None lists = record lists { left_ended = true }
with_item Right (Some p) lists = record lists { right = lists.right ++ p ∷ [] }
with_item Right None lists = record lists { right_ended = true }
with_item (Done verdict) item lists = lists

-- the packets `further` can follow a list. If the first argument is true, the list has ended, and
-- `further` is empty.
abbrev pub MayFollow : Bool → List Packet → Type 0
MayFollow true further = further ≡ []
MayFollow false further = Unit {0}

-- `verdict` is the verdict on every two lists that begin with the prefixes in `lists`
abbrev pub IsVerdictOfAll : Who → Lists → Verdict → Type 0
IsVerdictOfAll who lists verdict =
    (lefts rights : List Packet) → MayFollow lists.left_ended lefts → MayFollow lists.right_ended rights →
    IsVerdict who (lists.left ++ lefts) (lists.right ++ rights) verdict

-- the number of own writes in a cut list: the number of its blocks minus one
abbrev pub writes_in : Cut → ℕ
writes_in (LastBlock block) = 0
writes_in (Block block write rest) = suc (writes_in rest)

-- the number of packets in block `k` of a cut list, or 0 if there is no such block
abbrev pub block_len : ℕ → Cut → ℕ
block_len zero (LastBlock block) = length block
block_len zero (Block block write rest) = length block
block_len (suc k) (LastBlock block) = 0
block_len (suc k) (Block block write rest) = block_len k rest

-- the number `block_len k left + block_len k right` of packets in the blocks with number `k`. `k`
-- is the number of own writes in the cut list that has fewer own writes.
abbrev pub open_blocks_len : Cut → Cut → ℕ
open_blocks_len left right = let k = min (writes_in left) (writes_in right) in block_len k left + block_len k right

-- the number of packets in the open blocks of both `lists` for decoder `who`. A comparer stores
-- these packets until the verdict.
abbrev pub most_held : Who → Lists → ℕ
most_held who lists = open_blocks_len (cut_for who lists.left) (cut_for who lists.right)
