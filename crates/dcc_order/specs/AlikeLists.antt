-- Lists of packets that are alike for a decoder.
use Rattle.std.specs.Prelude.{◌≡◌, ◌↔◌, ◌&&◌, ◌||◌, List, [], ◌∷◌, ◌++◌, if◌then◌else◌, filter, fold, Contains}
use Rattle.std.specs.List.{starts_with, dedup}
use Rattle.dcc_packet.specs.declared.packet.Packet.{Packet}
use Rattle.dcc_packet.specs.SamePacket.{same}
use Rattle.dcc_regs.specs.declared.register.Who.{Who}
use Rattle.dcc_regs.specs.Heard.{heard}
use Rattle.dcc_regs.specs.Writes.{is_own_write}
use Rattle.dcc_regs.specs.Conflict.{Conflict}

-- the list of packets without each own write that has two copies of itself directly after it. So
-- only the last two of successive equal own writes stay.
abbrev pub without_third_copies : List Packet → List Packet
without_third_copies [] = []
without_third_copies (p ∷ later) =
    if is_own_write p && starts_with same later (p ∷ p ∷ []) then without_third_copies later
    else p ∷ without_third_copies later

-- a list of packets that is cut into blocks. `LastBlock` is a list without a write. `Block` is a
-- block, the own write that ends it, and the rest of the list.
pub data Cut : Type 0 where
  LastBlock : List Packet → Cut
  Block : List Packet → Packet → Cut → Cut

-- a cut list after one more packet `p`. If `p` is an own write, it ends the last block, and an
-- empty block follows. Any other packet is added to the last block.
abbrev pub cut_more : Cut → Packet → Cut
cut_more (LastBlock block) p = if is_own_write p then Block block p (LastBlock []) else LastBlock (block ++ p ∷ [])
cut_more (Block block write rest) p = Block block write (cut_more rest p)

-- the packets of the list `packets` that decoder `who` hears, as a cut list. Of successive equal
-- own writes, only the last two are in this list.
abbrev pub cut_for : Who → List Packet → Cut
cut_for who packets = fold cut_more (LastBlock []) (without_third_copies (heard who packets))

-- the alternation of packets `p` and `q` in `block`: all occurrences of `p` and `q` in order,
-- without adjacent repeats
abbrev pub turns : Packet → Packet → List Packet → List Packet
turns p q block = dedup same (filter (λ x. same p x || same q x) block)

-- blocks `left` and `right` are alike
pub record AlikeBlocks (left right : List Packet) : Type 0 where
  -- both blocks have the same set of packets
  pub members : (p : Packet) → Contains left p ↔ Contains right p
  -- every two conflicting packets of `left` alternate in the same way in both blocks
  pub order : (p q : Packet) → Contains left p → Contains left q → Conflict p q → turns p q left ≡ turns p q right

-- two cut lists have the same own writes in the same order, and the blocks at equal places are
-- alike
abbrev pub AlikeCuts : Cut → Cut → Type 0
AlikeCuts (LastBlock left) (LastBlock right) = AlikeBlocks left right
AlikeCuts (Block left write lefts) (Block right other rights) =
    AlikeBlocks left right × (write ≡ other) × AlikeCuts lefts rights
AlikeCuts (LastBlock left) (Block right other rights) = ⊥
AlikeCuts (Block left write lefts) (LastBlock right) = ⊥

-- the lists `left` and `right` are alike for decoder `who`
abbrev pub AlikeFor : Who → List Packet → List Packet → Type 0
AlikeFor who left right = AlikeCuts (cut_for who left) (cut_for who right)
