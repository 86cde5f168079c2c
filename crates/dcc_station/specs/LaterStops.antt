-- How long a command waits in a station that is stopped while the command waits.
use Rattle.std.specs.Prelude.{ℕ, ◌+◌, ◌*◌, ◌≡◌, ◌<◌, ◌≤◌, false, List, [], ◌∷◌, ◌++◌, length, if◌then◌else◌}
use Rattle.std.proofs.Common.{suc}
use Rattle.dcc_packet.specs.declared.address.Address.{Address}
use Rattle.dcc_packet.specs.declared.packet.Packet.{Packet}
use Rattle.dcc_regs.specs.Safety.{can_move}
use Rattle.dcc_station.specs.Sending.{Sending, with_command, forgotten, stopped, Next}
use Rattle.dcc_station.specs.Stops.{StationObeys}

-- a station in state `s` returns the packets of a list, one after the other, and goes to state
-- `new`. Before, between and after these packets it is stopped `stops` times, and it can accept
-- commands and forget entries.
pub data RunsWithStops : ℕ → Sending → List Packet → Sending → Type 0 where
  stays_so : (s : Sending) → RunsWithStops 0 s [] s
  accepts_more : (stops : ℕ) (s new : Sending) (packets : List Packet) (p : Packet)
      → RunsWithStops stops (with_command s p) packets new → RunsWithStops stops s packets new
  returns_more : (stops : ℕ) (s between new : Sending) (p : Packet) (packets : List Packet) → Next s p between
      → RunsWithStops stops between packets new → RunsWithStops stops s (p ∷ packets) new
  forgets_more : (stops : ℕ) (s new : Sending) (packets : List Packet) (to : Address)
      → RunsWithStops stops (forgotten s to) packets new → RunsWithStops stops s packets new
  stops_more : (stops : ℕ) (s new : Sending) (packets : List Packet)
      → RunsWithStops stops (stopped s) packets new → RunsWithStops (suc stops) s packets new

-- the packet `p` is in `packets`, after at most `most` other packets
pub record ComesWithin (most : ℕ) (p : Packet) (packets : List Packet) : Type 0 where
  pub first : List Packet
  pub rest : List Packet
  pub split : packets ≡ first ++ p ∷ rest
  pub few : length first ≤ most

-- the number of packets that a stop costs a command before which the commands `waiting` wait
abbrev pub cost_of_stop : List Packet → ℕ → ℕ
cost_of_stop [] repeats = repeats
cost_of_stop (p ∷ later) repeats = 2 * repeats

-- the greatest number of packets before the first copy of a command that a station in state `s`
-- accepts and that stays, if the station is then stopped `stops` times. If `w` commands wait, it is
-- `w * (repeats + 1) + stops * (2 * repeats)`. If no command waits, each stop costs only `repeats`
-- packets. A stop that waits costs `repeats` packets more.
abbrev pub longest_wait : Sending → ℕ → ℕ
longest_wait s stops =
    length s.waiting * (s.repeats + 1) + (if s.stopping then s.repeats else 0)
    + stops * cost_of_stop s.waiting s.repeats

-- a station accepts the command `p`, which sets no speed to a step, so no stop withdraws it. The
-- station is then stopped `stops` times. The command is sent after at most `longest_wait` packets.
abbrev pub CommandsWaitWithLaterStops : Type 0
CommandsWaitWithLaterStops =
    (s new : Sending) (commands returned packets : List Packet) (p : Packet) (stops : ℕ)
    → StationObeys s commands returned → can_move p ≡ false
    → RunsWithStops stops (with_command s p) packets new → longest_wait s stops < length packets
    → ComesWithin (longest_wait s stops) p packets
