-- The different packets of a block, and their numbers.
use Rattle.std.specs.Prelude.{ℕ, ◌≡◌, ◌<◌, ◌↔◌, List, length, slice_index_or, Contains}
use Rattle.std.specs.List.{position_or_len}
use Rattle.dcc_packet.specs.declared.packet.Packet.{Packet}
use Rattle.dcc_packet.specs.SamePacket.{same}

-- the number of packet `p` in the list `members` of different packets. The number is the place of
-- `p`, or the length of the list if `members` does not contain `p`.
abbrev pub member_number : List Packet → Packet → ℕ
member_number members p = position_or_len (same p) members

-- no packet is twice in `members`: the first occurrence of the packet at place `k` is at `k`
abbrev pub EachOnce : List Packet → Type 0
EachOnce members = (k : ℕ) (d : Packet) → k < length members → member_number members (slice_index_or members k d) ≡ k

-- `members` contains each packet of `block` exactly once, and no other packet
pub record AreMembers (members block : List Packet) : Type 0 where
  pub same_set : (p : Packet) → Contains members p ↔ Contains block p
  pub once : EachOnce members
