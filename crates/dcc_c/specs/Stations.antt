-- A command station in the caller's memory.
use Rattle.std.specs.Prelude.{◌≡◌, ℕ, List}
use Rattle.circular_buffer.specs.Buffer.{Buffer, buffer}
use Rattle.dcc_packet.specs.declared.packet.Packet.{Packet}
use Rattle.dcc_packet.specs.Spelling.{spelling}
use Rattle.dcc_station.specs.Rings.{ring_items, sending_over}
use Rattle.dcc_station.specs.Sending.{Sending}
use Rattle.dcc_c.specs.declared.station_ring.DccRing.{DccRing}
use Rattle.dcc_c.specs.declared.station_numbers.DccStation.{DccStation}
use Rattle.dcc_c.specs.Frames.{frame_answer}

-- the packets in the ring `r` in order, and its capacity
abbrev pub ring_of : DccRing → Buffer Packet
ring_of r = buffer (ring_items r.start r.len r.packets) r.capacity

-- the state of the station in the C structure `s`: its queue, if a stop waits, the number of copies
-- sent, its entries and its sizes
abbrev pub sending_of : DccStation → Sending
sending_of s = sending_over (ring_of s.commands) s.stopping s.sent (ring_of s.entries) s.repeats

-- `bytes` are the frame of `packet`
abbrev pub FrameSpells : List ℕ → Packet → Type 0
FrameSpells bytes packet = (frame_answer bytes ≡ 0) × (spelling packet ≡ bytes)
