-- The two blocks that a comparer stores, as numbers. The first block is the block of the left list,
-- and the second block is the block of the right list. The number of a packet is its place among
-- the different packets of the first block.
use Rattle.std.specs.Prelude.{ℕ, ◌≡◌, ◌<◌, List, length, map, slice_index_or}
use Rattle.std.specs.List.{AllByRecursion}
use Rattle.dcc_packet.specs.declared.packet.Packet.{Packet}
use Rattle.dcc_packet.specs.declared.packet.Packet.TheVariants.{Idle}
use Rattle.dcc_order.specs.Held.{Held}
use Rattle.dcc_order.specs.Members.{AreMembers}
use Rattle.dcc_order.specs.Turns.{turns_of}
use Rattle.dcc_regs.specs.Conflict.{Conflict}

-- the packets of `members` at the places `numbers`
abbrev pub packets_numbered : List Packet → List ℕ → List Packet
packets_numbered members numbers = map (λ n. slice_index_or members n Idle) numbers

-- the two blocks whose packets are at the places `numbers` and `others` of `members`
abbrev pub blocks_numbered : List Packet → List ℕ → List ℕ → Held
blocks_numbered members numbers others =
    record { first = packets_numbered members numbers; second = packets_numbered members others }

-- each number of `numbers` is below the number of packets in `members`
abbrev pub Numbered : List Packet → List ℕ → Type 0
Numbered members numbers = AllByRecursion (λ n. n < length members) numbers

-- `members` are the different packets of the first block, each once. `numbers` are the numbers of
-- the packets of the first block, and `others` are the numbers of the packets of the second block.
pub record AreHeld (members : List Packet) (numbers others : List ℕ) : Type 0 where
  pub each_once : AreMembers members (packets_numbered members numbers)
  pub first_numbered : Numbered members numbers
  pub second_numbered : Numbered members others

-- packet number `own` and each conflicting packet with a lower number alternate in the same way in
-- both blocks. `numbers` and `others` have the numbers of the packets of the two blocks.
abbrev pub NumberedAlike : List Packet → List ℕ → List ℕ → ℕ → Type 0
NumberedAlike members numbers others own =
    (rival : ℕ) (d e : Packet) → rival < own
    → Conflict (slice_index_or members own d) (slice_index_or members rival e) →
    turns_of own rival numbers ≡ turns_of own rival others
