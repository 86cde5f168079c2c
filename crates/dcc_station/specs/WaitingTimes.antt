-- How long a command waits in a station: how many packets and half-bits are sent before the first
-- copy of the command.
use Rattle.std.specs.Prelude.{ℕ, ◌+◌, ◌*◌, ◌≡◌, ◌<◌, ◌≤◌, List, [], ◌∷◌, ◌++◌, length, map, drop, replicate, sum}
use Rattle.std.specs.List.{AllByRecursion}
use Rattle.dcc_wire.specs.declared.timing.Timing.{Timing}
use Rattle.dcc_wire.specs.Sending.{Sent, sent_all}
use Rattle.dcc_packet.specs.declared.address.Address.{Address}
use Rattle.dcc_packet.specs.declared.packet.Packet.{Packet}
use Rattle.dcc_packet.specs.Spelling.{spelling, BytesFit}
use Rattle.dcc_station.specs.Sending.{Sending, copies, with_command, forgotten, Next, NextAll}
use Rattle.dcc_station.specs.Refresh.{StationRepresents}

-- a station in state `s` returns the packets of a list, one after the other, and goes to state
-- `new`. The station can accept commands and forget entries before, between and after these
-- packets.
pub data RunsTo : Sending → List Packet → Sending → Type 0 where
  stays : (s : Sending) → RunsTo s [] s
  accepts_one : (s new : Sending) (packets : List Packet) (p : Packet) → RunsTo (with_command s p) packets new
      → RunsTo s packets new
  returns_one : (s between new : Sending) (p : Packet) (packets : List Packet) → Next s p between
      → RunsTo between packets new → RunsTo s (p ∷ packets) new
  forgets_one : (s new : Sending) (packets : List Packet) (to : Address) → RunsTo (forgotten s to) packets new
      → RunsTo s packets new

-- if a station in state `s` returns `packets` one after the other and accepts no command, `RunsTo`
-- holds for these packets
abbrev pub ReturnedPacketsAreRuns : Type 0
ReturnedPacketsAreRuns = (s new : Sending) (packets : List Packet) → NextAll s packets new → RunsTo s packets new

-- let `RunsTo` hold for `packets`. If the station then returns the packet `p`, `RunsTo` holds for
-- `packets` followed by `p`.
abbrev pub RunsGoOnByPackets : Type 0
RunsGoOnByPackets =
    (s between new : Sending) (packets : List Packet) (p : Packet) → RunsTo s packets between → Next between p new
    → RunsTo s (packets ++ p ∷ []) new

-- let `RunsTo` hold for `packets`. If the station then accepts the command `p`, `RunsTo` still
-- holds for `packets`.
abbrev pub RunsGoOnByCommands : Type 0
RunsGoOnByCommands =
    (s between : Sending) (packets : List Packet) (p : Packet) → RunsTo s packets between
    → RunsTo s packets (with_command between p)

-- let `RunsTo` hold for `packets`. If the station then forgets its entries with the address `to`,
-- `RunsTo` still holds for `packets`.
abbrev pub RunsGoOnByForgetting : Type 0
RunsGoOnByForgetting =
    (s between : Sending) (packets : List Packet) (to : Address) → RunsTo s packets between
    → RunsTo s packets (forgotten between to)

-- the copies of all commands of a list, in order. There are `repeats` copies of each command, or
-- `repeats + 1` copies of an own write.
abbrev pub all_copies : ℕ → List Packet → List Packet
all_copies repeats [] = []
all_copies repeats (p ∷ later) = replicate (copies repeats p) p ++ all_copies repeats later

-- the copies of the commands `before` that a station in state `s` must still send. `before` are the
-- first commands in the queue.
abbrev pub copies_left : Sending → List Packet → List Packet
copies_left s before = drop s.sent (all_copies s.repeats before)

-- each of `packets`, with the timing `timing`
abbrev pub sent_with : Timing → List Packet → List Sent
sent_with timing packets = map (λ p. record { bytes = spelling p; timing = timing }) packets

-- the commands `before` are the first commands in the queue, and the command `p` follows them. The
-- next packets are the remaining copies of `before`, and then a copy of `p`. If `before` is empty,
-- copies of `p` may already have been sent. Otherwise this copy is the first copy of `p`.
abbrev pub CommandsAreSentInTurn : Type 0
CommandsAreSentInTurn =
    (s new : Sending) (commands returned before later packets : List Packet) (p : Packet)
    → StationRepresents s commands returned → s.waiting ≡ before ++ p ∷ later
    → RunsTo s packets new → length (copies_left s before) < length packets
    → (rest : List Packet) × (packets ≡ copies_left s before ++ p ∷ rest)

-- a station accepts the command `p`. The next packets are the remaining copies of the commands that
-- waited before `p`, and then the first copy of `p`. If `w` commands waited, there are at most `w *
-- (repeats + 1)` remaining copies.
abbrev pub CommandsWaitForFewPackets : Type 0
CommandsWaitForFewPackets =
    (s new : Sending) (commands returned packets : List Packet) (p : Packet) → StationRepresents s commands returned
    → RunsTo (with_command s p) packets new → length s.waiting * (s.repeats + 1) < length packets
    → (rest : List Packet) × (packets ≡ copies_left s s.waiting ++ p ∷ rest)
    × (length (copies_left s s.waiting) ≤ length s.waiting * (s.repeats + 1))

-- each packet has at most `2 * (preamble + 55)` half-bits: those of the preamble, of 6 bytes with 9
-- bits each, and of the end bit
abbrev pub SentPacketsAreShort : Type 0
SentPacketsAreShort =
    (timing : Timing) (packets : List Packet) → AllByRecursion BytesFit packets
    → length (sent_all (sent_with timing packets)) ≤ length packets * (2 * (timing.preamble + 55))

-- the duration in microseconds of a packet of 6 bytes with the timing `timing`. All bits between
-- the preamble and the end bit are zeros.
abbrev pub longest_time : Timing → ℕ
longest_time timing = (timing.preamble + 1) * (2 * timing.one) + 54 * (timing.zero_first + timing.zero_second)

-- each packet takes at most `longest_time` microseconds
abbrev pub SentPacketsTakeFewMicroseconds : Type 0
SentPacketsTakeFewMicroseconds =
    (timing : Timing) (packets : List Packet) → AllByRecursion BytesFit packets
    → sum (sent_all (sent_with timing packets)) ≤ length packets * longest_time timing

-- a station in which `w` commands wait accepts the command `p`. Let `first` be the packets before
-- the first copy of `p`, and let n be `w * (repeats + 1) + 1`. Then `first` and this copy have at
-- most `n * 2 * (preamble + 55)` half-bits.
abbrev pub CommandsAreSentInTime : Type 0
CommandsAreSentInTime =
    (s new : Sending) (commands returned packets : List Packet) (p : Packet) (timing : Timing)
    → StationRepresents s commands returned → RunsTo (with_command s p) packets new
    → AllByRecursion BytesFit packets → length s.waiting * (s.repeats + 1) < length packets
    → (first rest : List Packet) × (first ≡ copies_left s s.waiting) × (packets ≡ first ++ p ∷ rest)
    × (length (sent_all (sent_with timing (first ++ p ∷ [])))
    ≤ (length s.waiting * (s.repeats + 1) + 1) * (2 * (timing.preamble + 55)))

-- a station in which `w` commands wait accepts the command `p`. Let `first` be the packets before
-- the first copy of `p`, and let n be `w * (repeats + 1) + 1`. Then `first` and this copy take at
-- most `n * longest_time timing` microseconds.
abbrev pub CommandsAreSentInMicroseconds : Type 0
CommandsAreSentInMicroseconds =
    (s new : Sending) (commands returned packets : List Packet) (p : Packet) (timing : Timing)
    → StationRepresents s commands returned → RunsTo (with_command s p) packets new
    → AllByRecursion BytesFit packets → length s.waiting * (s.repeats + 1) < length packets
    → (first rest : List Packet) × (first ≡ copies_left s s.waiting) × (packets ≡ first ++ p ∷ rest)
    × (sum (sent_all (sent_with timing (first ++ p ∷ [])))
    ≤ (length s.waiting * (s.repeats + 1) + 1) * longest_time timing)
