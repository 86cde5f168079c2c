-- The effect of one more packet on a cut list.
use Rattle.std.specs.Prelude.{◌≡◌, ◌&&◌, Bool, false, List, [], ◌∷◌, ◌++◌, if◌then◌else◌}
use Rattle.dcc_packet.specs.declared.packet.Packet.{Packet}
use Rattle.dcc_regs.specs.declared.register.Who.{Who}
use Rattle.dcc_packet.specs.SamePacket.{same}
use Rattle.dcc_regs.specs.Writes.{is_own_write}
use Rattle.dcc_regs.specs.Heard.{hears, heard}
use Rattle.dcc_order.specs.AlikeLists.{Cut, LastBlock, Block, cut_more, cut_for}

-- true if the last two packets of a list equal `p`
abbrev pub ends_with_two : List Packet → Packet → Bool
ends_with_two [] p = false
ends_with_two (q ∷ []) p = false
ends_with_two (q ∷ r ∷ []) p = same p q && same p r
ends_with_two (q ∷ r ∷ s ∷ later) p = ends_with_two (r ∷ s ∷ later) p

-- A packet `p` that decoder `who` does not hear leaves the cut list unchanged. An own write
-- directly after two copies of itself also leaves the cut list unchanged. Any other own write ends
-- the last block. Any other packet is added to the last block.
abbrev pub OneMorePacket : Type 0
OneMorePacket = (who : Who) (packets : List Packet) (p : Packet) →
    cut_for who (packets ++ p ∷ []) ≡
    (if hears who p
    then (if is_own_write p && ends_with_two (heard who packets) p then cut_for who packets else cut_more
    (cut_for who packets) p)
    else cut_for who packets)

-- the first cut list is a prefix of the second cut list. Both lists have the same blocks and writes
-- before the last block of the first list. The second list can have more packets in this block, and
-- more blocks after it.
abbrev pub GoesOnAs : Cut → Cut → Type 0
GoesOnAs (LastBlock block) (LastBlock longer) = (more : List Packet) × (longer ≡ block ++ more)
GoesOnAs (LastBlock block) (Block longer write rest) = (more : List Packet) × (longer ≡ block ++ more)
GoesOnAs (Block block write rest) (Block same_block same_write further) =
    (same_block ≡ block) × (same_write ≡ write) × GoesOnAs rest further
GoesOnAs (Block block write rest) (LastBlock longer) = ⊥

-- if packets `further` follow the list `packets`, the blocks of `packets` that end with a write do
-- not change
abbrev pub FinishedBlocksStay : Type 0
FinishedBlocksStay =
    (who : Who) (packets further : List Packet) → GoesOnAs (cut_for who packets) (cut_for who (packets ++ further))
