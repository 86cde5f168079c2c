-- How a packet and another packet, its rival, alternate in a block. The alternation has two values:
-- the number of turns, and true if the rival took the last turn. A turn consists of occurrences of
-- one of the two packets, without an occurrence of the other packet between them.
use Rattle.std.specs.Prelude.{ℕ, ◌+◌, ◌≡◌, ◌<◌, slice_index_or, ◌||◌, ◌==◌, true, false, List, [], ◌∷◌, Option, Some}
use Rattle.std.specs.Prelude.{fold, length, if◌then◌else◌}
use Rattle.dcc_packet.specs.declared.packet.Packet.{Packet}
use Rattle.dcc_order.specs.declared.turns.Turns.{Turns}

-- the last packet of a list. If the list is empty, the result is `before`.
abbrev pub last_behind : Option Packet → List Packet → Option Packet
last_behind before [] = before
last_behind before (p ∷ later) = last_behind (Some p) later

-- the alternation before the first turn
abbrev pub no_turns : Turns
no_turns = record { count = 0; rival_last = false }

-- the alternation `taken` after one more occurrence of the packet. The occurrence is a new turn if
-- it is the first turn, or if the rival took the last turn.
abbrev pub own_turn : Turns → Turns
own_turn taken =
    if taken.rival_last || taken.count == 0 then record { count = taken.count + 1; rival_last = false } else taken

-- the alternation `taken` after one more occurrence of the rival. The occurrence is a new turn
-- unless the rival took the last turn.
abbrev pub rival_turn : Turns → Turns
rival_turn taken = if taken.rival_last then taken else record { count = taken.count + 1; rival_last = true }

-- the alternation of the packets with the numbers `own` and `rival` after an occurrence of packet
-- number `number`. Before this occurrence, the alternation was `taken`.
abbrev pub with_turn : ℕ → ℕ → Turns → ℕ → Turns
with_turn own rival taken number =
    if number == own then own_turn taken
    else if number == rival then rival_turn taken
    else taken

-- the alternation of the packets with the numbers `own` and `rival` in a block. `numbers` are the
-- numbers of all packets of this block, in order.
abbrev pub turns_of : ℕ → ℕ → List ℕ → Turns
turns_of own rival numbers = fold (with_turn own rival) no_turns numbers

-- `turns` has `count` elements, one for each rival. Each element is `no_turns`, the alternation
-- before the first turn.
pub record Started (turns : List Turns) (count : ℕ) : Type 0 where
  pub each : length turns ≡ count
  pub none : (rival : ℕ) (d : Turns) → rival < length turns → slice_index_or turns rival d ≡ no_turns

-- `turns` has `count` elements, one for each rival. Each element is the alternation of packet
-- number `own` and this rival in a block. `numbers` are the numbers of all packets of this block,
-- in order.
pub record Counted (turns : List Turns) (own count : ℕ) (numbers : List ℕ) : Type 0 where
  pub each : length turns ≡ count
  pub told : (rival : ℕ) (d : Turns) → rival < length turns → slice_index_or turns rival d ≡ turns_of own rival numbers
