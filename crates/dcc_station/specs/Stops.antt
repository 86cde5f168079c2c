-- Stops of all locomotives: the list of accepted commands of a station that was stopped, and
-- theorems on the packets after a stop.
use Rattle.std.specs.Prelude.{ℕ, ◌≡◌, ◌<◌, ◌≤◌, ◌+◌, ◌*◌, Bool, true, false, Option, List, [], ◌∷◌, ◌++◌}
use Rattle.std.specs.Prelude.{length, filter, is_some, ◌&&◌, None}
use Rattle.std.proofs.Common.{suc}
use Rattle.std.specs.List.{list_any}
use Rattle.dcc_packet.specs.declared.address.Address.{Address}
use Rattle.dcc_packet.specs.declared.address.Address.TheVariants.{Broadcast}
use Rattle.dcc_packet.specs.declared.packet.Packet.{Packet}
use Rattle.dcc_regs.specs.declared.register.Who.{Who}
use Rattle.dcc_regs.specs.declared.register.Who.TheVariants.{Loco}
use Rattle.dcc_regs.specs.declared.register.Register.TheVariants.{Speed as SpeedRegister, Direction}
use Rattle.dcc_regs.specs.declared.register.SpeedMode.{SpeedMode}
use Rattle.dcc_regs.specs.Result.{RegisterMap, result}
use Rattle.dcc_regs.specs.Safety.{can_move, is_standing}
use Rattle.dcc_regs.specs.Heard.{hears}
use Rattle.dcc_regs.specs.Sets.{sets}
use Rattle.dcc_station.specs.Commands.{is_sendable}
use Rattle.dcc_station.specs.Refresh.{StationRepresents, LeaveTheSameButPending, intended}
use Rattle.dcc_station.specs.Sending.{Sending, idle_sending, with_command, forgotten, Next}
use Rattle.dcc_station.specs.WaitingTimes.{RunsTo, copies_left}
use Rattle.dcc_station.specs.Sending.{outgoing, stopped, stop_packet, not_withdrawn}

-- the first command of the queue `waiting` if `sent` copies of it, at least one, were sent. If
-- there is no such command, the list is empty. While a stop waits, `sent` counts the copies of the
-- stop.
abbrev pub begun : Bool → ℕ → List Packet → List Packet
begun false (suc sent) (p ∷ rest) = p ∷ []
begun stopping sent waiting = []

-- the command in the queue of which some copies, and not yet all, were sent
abbrev pub partly_sent : Sending → List Packet
partly_sent s = begun s.stopping s.sent s.waiting

-- a station in state `s` has accepted `commands` and returned `packets` since it was new. It can
-- have forgotten entries and have been stopped at any time. A stop is in the list `commands` before
-- all commands that stay in the queue. The withdrawn commands are not in the list. Only a withdrawn
-- command that was partly sent is in the list, directly before the stop. A stop that is called
-- while another stop waits takes the place of the other stop.
pub data StationObeys : Sending → List Packet → List Packet → Type 0 where
  made : (queue slots repeats : ℕ) → 0 < repeats → StationObeys (idle_sending queue slots repeats) [] []
  accepts : (s : Sending) (commands packets : List Packet) (p : Packet) → StationObeys s commands packets
      → is_sendable p ≡ true → length s.waiting < s.queue →
      StationObeys (with_command s p) (commands ++ p ∷ []) packets
  hands_out : (s new : Sending) (commands packets : List Packet) (p : Packet) → StationObeys s commands packets
      → Next s p new → StationObeys new commands (packets ++ p ∷ [])
  forgets : (s : Sending) (commands packets : List Packet) (to : Address) → StationObeys s commands packets
      → StationObeys (forgotten s to) commands packets
  stops : (s : Sending) (done packets : List Packet) → StationObeys s (done ++ outgoing s) packets
      → StationObeys (stopped s)
      (done ++ filter can_move (partly_sent s) ++ stop_packet ∷ not_withdrawn s.waiting) packets

-- a station that was never stopped is a station that can have been stopped
abbrev pub StationsThatRepresentObey : Type 0
StationsThatRepresentObey =
    (s : Sending) (commands packets : List Packet) → StationRepresents s commands packets
    → StationObeys s commands packets

-- in a station that was never stopped, no stop waits
abbrev pub NoStopWaitsUnasked : Type 0
NoStopWaitsUnasked =
    (s : Sending) (commands packets : List Packet) → StationRepresents s commands packets → outgoing s ≡ s.waiting

-- no entry has the broadcast address, so a station that forgets the broadcast address does not
-- change
abbrev pub BroadcastsAreNoEntries : Type 0
BroadcastsAreNoEntries =
    (s : Sending) (commands packets : List Packet) → StationObeys s commands packets → forgotten s Broadcast ≡ s

-- the stop that waits and the commands in the queue are the last commands among the accepted
-- commands
abbrev pub OutgoingIsSuffix : Type 0
OutgoingIsSuffix =
    (s : Sending) (commands packets : List Packet) → StationObeys s commands packets
    → (done : List Packet) × (commands ≡ done ++ outgoing s)

-- let a station obey its commands and stops. If no command and no stop waits, each decoder has the
-- same registers, except Pending, after the returned packets as after the packets `intended
-- commands`. `commands` are the accepted commands and stops.
abbrev pub StopsAreTransparent : Type 0
StopsAreTransparent =
    (s : Sending) (commands packets : List Packet) → StationObeys s commands packets → outgoing s ≡ []
    → (who : Who) → LeaveTheSameButPending who packets (intended commands)

-- let a station obey its commands and stops. `before` are the first packets of `outgoing s`, and
-- the command `p` follows them. The next packets are the remaining copies of `before`, and then a
-- copy of `p`. If `before` is empty, copies of `p` may already have been sent.
abbrev pub PacketsAreSentInTurn : Type 0
PacketsAreSentInTurn =
    (s new : Sending) (commands returned before later packets : List Packet) (p : Packet)
    → StationObeys s commands returned → outgoing s ≡ before ++ p ∷ later
    → RunsTo s packets new → length (copies_left s before) < length packets
    → (rest : List Packet) × (packets ≡ copies_left s before ++ p ∷ rest)

-- a station that obeys its commands and stops accepts the command `p`. The next packets are the
-- remaining copies of the stop and of the commands that waited before `p`, and then the first copy
-- of `p`. If `w` commands waited, there are at most `w * (repeats + 1) + repeats` remaining copies.
abbrev pub CommandsWaitForFewPacketsAfterStops : Type 0
CommandsWaitForFewPacketsAfterStops =
    (s new : Sending) (commands returned packets : List Packet) (p : Packet) → StationObeys s commands returned
    → RunsTo (with_command s p) packets new → length s.waiting * (s.repeats + 1) + s.repeats < length packets
    → (rest : List Packet) × (packets ≡ copies_left s (outgoing s) ++ p ∷ rest)
    × (length (copies_left s (outgoing s)) ≤ length s.waiting * (s.repeats + 1) + s.repeats)

-- a station in state `s` returns the packets of a list, one after the other, and goes to state
-- `new`. Before, between and after these packets it can accept commands for which `moves` is false,
-- forget entries and be stopped.
pub data RunsWithout (moves : Packet → Bool) : Sending → List Packet → Sending → Type 0 where
  stays : (s : Sending) → RunsWithout moves s [] s
  accepts_one : (s new : Sending) (packets : List Packet) (p : Packet) → moves p ≡ false
      → RunsWithout moves (with_command s p) packets new → RunsWithout moves s packets new
  returns_one : (s between new : Sending) (p : Packet) (packets : List Packet) → Next s p between
      → RunsWithout moves between packets new → RunsWithout moves s (p ∷ packets) new
  forgets_one : (s new : Sending) (packets : List Packet) (to : Address)
      → RunsWithout moves (forgotten s to) packets new → RunsWithout moves s packets new
  stops_one : (s new : Sending) (packets : List Packet) → RunsWithout moves (stopped s) packets new
      → RunsWithout moves s packets new

-- true if the packet `p` sets the speed of a locomotive with the active address `active` to a step
abbrev pub moves_loco : Option Address → Packet → Bool
moves_loco active p = hears (Loco active) p && can_move p

-- let a station be stopped, and then accept no command that sets a speed to a step: its first packet
-- is then the stop, and none of its packets sets the speed of a locomotive to a step
abbrev pub NoStepAfterStops : Type 0
NoStepAfterStops =
    (s new : Sending) (first : Packet) (packets : List Packet)
    → RunsWithout can_move (stopped s) (first ∷ packets) new
    → (first ≡ stop_packet) × (list_any can_move (first ∷ packets) ≡ false)

-- let a station be stopped after the packets `before`, return at least one packet, and accept no
-- command that sets a speed to a step. Then each locomotive decoder that got `before` and the
-- packets after the stop stands. `start` are its registers before all these packets.
abbrev pub LocosStandAfterStops : Type 0
LocosStandAfterStops =
    (s new : Sending) (before packets : List Packet) (active : Option Address) (start : RegisterMap)
    → RunsWithout can_move (stopped s) packets new → 0 < length packets → is_some (start SpeedRegister) ≡ true
    → is_standing (result (Loco active) start (before ++ packets) SpeedRegister) ≡ true

-- let a station be stopped, and then accept no command for which `moves` is true, for example no
-- command that is equal to a withdrawn one. Then it sends no such command. Each command for which
-- `moves` is true sets a speed to a step, so the stop withdraws it if it waits.
abbrev pub NoWithdrawnCommandIsSent : Type 0
NoWithdrawnCommandIsSent =
    (moves : Packet → Bool) (s new : Sending) (packets : List Packet)
    → ((p : Packet) → can_move p ≡ false → moves p ≡ false)
    → RunsWithout moves (stopped s) packets new → list_any moves packets ≡ false

-- a stop does not set the direction of a locomotive, in any speed mode
abbrev pub StopsLeaveDirections : Type 0
StopsLeaveDirections = (mode : SpeedMode) → sets mode stop_packet Direction ≡ None

-- let `RunsWithout moves` hold for `packets`. If the station then returns the packet `p`, it holds
-- for `packets` followed by `p`.
abbrev pub StandingGoesOnByPackets : Type 0
StandingGoesOnByPackets =
    (moves : Packet → Bool) (s between new : Sending) (packets : List Packet) (p : Packet)
    → RunsWithout moves s packets between
    → Next between p new → RunsWithout moves s (packets ++ p ∷ []) new

-- let `RunsWithout moves` hold for `packets`. If the station then accepts a command `p` for which
-- `moves` is false, it still holds for `packets`.
abbrev pub StandingGoesOnByCommands : Type 0
StandingGoesOnByCommands =
    (moves : Packet → Bool) (s between : Sending) (packets : List Packet) (p : Packet)
    → RunsWithout moves s packets between → moves p ≡ false
    → RunsWithout moves s packets (with_command between p)

-- let `RunsWithout moves` hold for `packets`. If the station then forgets its entries with the
-- address `to`, it still holds for `packets`.
abbrev pub StandingGoesOnByForgetting : Type 0
StandingGoesOnByForgetting =
    (moves : Packet → Bool) (s between : Sending) (packets : List Packet) (to : Address)
    → RunsWithout moves s packets between → RunsWithout moves s packets (forgotten between to)

-- let `RunsWithout moves` hold for `packets`. If the station is then stopped, it still holds for
-- `packets`.
abbrev pub StandingGoesOnByStops : Type 0
StandingGoesOnByStops =
    (moves : Packet → Bool) (s between : Sending) (packets : List Packet) → RunsWithout moves s packets between
    → RunsWithout moves s packets (stopped between)

-- after a stop, a locomotive with the active address `active` stands until the station accepts a
-- command that it hears and that sets a speed to a step
abbrev pub LocoStandsUntilItsOwnStep : Type 0
LocoStandsUntilItsOwnStep =
    (s new : Sending) (before packets : List Packet) (active : Option Address) (start : RegisterMap)
    → RunsWithout (moves_loco active) (stopped s) packets new → 0 < length packets
    → is_some (start SpeedRegister) ≡ true
    → is_standing (result (Loco active) start (before ++ packets) SpeedRegister) ≡ true
