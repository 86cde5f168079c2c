-- Rings of packets, and a station that stores its packets in two rings.
use Rattle.std.specs.Prelude.{ℕ, Bool, List, ◌++◌, take, drop}
use Rattle.circular_buffer.specs.Buffer.{Buffer}
use Rattle.dcc_packet.specs.declared.packet.Packet.{Packet}
use Rattle.dcc_station.specs.Sending.{Sending}

-- the `len` items of a ring in the slots `places`. The first item is in slot `start`, and the ring
-- goes on with the first slot after the last slot.
abbrev pub ring_items : {X : Type 0} → ℕ → ℕ → List X → List X
ring_items start len places = take len (drop start places ++ take start places)

-- the state of a station that stores its queue in the ring `commands` and its entries in the ring
-- `entries`. If `stopping` is true, a stop waits before the queue. The station has sent `sent`
-- copies of the packet that it sends next, and sends each command `repeats` times.
abbrev pub sending_over : Buffer Packet → Bool → ℕ → Buffer Packet → ℕ → Sending
sending_over commands stopping sent entries repeats = record {
  waiting = commands.items;
  stopping = stopping;
  sent = sent;
  entries = entries.items;
  queue = commands.capacity;
  slots = entries.capacity;
  repeats = repeats;
}
