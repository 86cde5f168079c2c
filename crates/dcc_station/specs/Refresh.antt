-- The refreshing of a station is transparent: decoders have the same registers with and without the
-- refreshed packets.
use Rattle.std.specs.Prelude.{ℕ, ◌≡◌, ◌≢◌, ◌<◌, true, List, [], ◌∷◌, ◌++◌, length, if◌then◌else◌}
use Rattle.dcc_packet.specs.declared.address.Address.{Address}
use Rattle.dcc_packet.specs.declared.packet.Packet.{Packet}
use Rattle.dcc_regs.specs.declared.register.Who.{Who}
use Rattle.dcc_regs.specs.declared.register.Register.{Register}
use Rattle.dcc_regs.specs.declared.register.Register.TheVariants as registers
use Rattle.dcc_regs.specs.Writes.{is_own_write}
use Rattle.dcc_regs.specs.Result.{RegisterMap, HasHeard, result, step}
use Rattle.dcc_station.specs.Commands.{is_sendable}
use Rattle.dcc_station.specs.Sending.{Sending, idle_sending, outgoing, with_command, forgotten, Next, NextAll}

-- a station in state `s` has accepted `commands` and returned `packets` since it was new. It can
-- have forgotten entries at any time. It was never stopped.
pub data StationRepresents : Sending → List Packet → List Packet → Type 0 where
  made : (queue slots repeats : ℕ) → 0 < repeats → StationRepresents (idle_sending queue slots repeats) [] []
  accepts : (s : Sending) (commands packets : List Packet) (p : Packet) → StationRepresents s commands packets
      → is_sendable p ≡ true → length s.waiting < s.queue →
      StationRepresents (with_command s p) (commands ++ p ∷ []) packets
  hands_out : (s new : Sending) (commands packets : List Packet) (p : Packet) → StationRepresents s commands packets
      → Next s p new → StationRepresents new commands (packets ++ p ∷ [])
  forgets : (s : Sending) (commands packets : List Packet) (to : Address) → StationRepresents s commands packets
      → StationRepresents (forgotten s to) commands packets

-- the packets that the operator intends by a list of commands. The list has each command once, and
-- each own write twice.
abbrev pub intended : List Packet → List Packet
intended [] = []
intended (p ∷ later) = if is_own_write p then p ∷ p ∷ intended later else p ∷ intended later

-- let decoder `who` have any registers at the start. Each register except Pending has the same
-- value after the list `left` as after the list `right`.
abbrev pub LeaveTheSameButPending : Who → List Packet → List Packet → Type 0
LeaveTheSameButPending who left right =
    (start : RegisterMap) (register : Register) → register ≢ registers.Pending
    → result who start left register ≡ result who start right register

-- let the station have sent no copy of any command in its queue. Then each decoder has the same
-- registers, except Pending, after the returned packets as after the packets `intended done`.
-- `done` are the commands that have left the queue.
abbrev pub RefreshIsTransparent : Type 0
RefreshIsTransparent =
    (s : Sending) (done packets : List Packet) → StationRepresents s (done ++ s.waiting) packets → s.sent ≡ 0 →
    (who : Who) → LeaveTheSameButPending who packets (intended done)

-- if no command waits, each decoder has the same registers, except Pending, after the returned
-- packets as after the packets `intended commands`. `commands` are all accepted commands.
abbrev pub TransparentWhereNothingWaits : Type 0
TransparentWhereNothingWaits =
    (s : Sending) (commands packets : List Packet) → StationRepresents s commands packets → s.waiting ≡ [] →
    (who : Who) → LeaveTheSameButPending who packets (intended commands)

-- if no command and no stop waits, the station returns its entries in order, each once. After it
-- has returned each entry once, its state is unchanged.
abbrev pub EntriesAreHandedOutInTurn : Type 0
EntriesAreHandedOutInTurn =
    (s new : Sending) (packets : List Packet) → outgoing s ≡ [] → length packets ≡ length s.entries
    → NextAll s packets new → (packets ≡ s.entries) × (new ≡ s)

-- the commands in the queue are the last commands among the accepted commands
abbrev pub WaitingIsSuffix : Type 0
WaitingIsSuffix =
    (s : Sending) (commands packets : List Packet) → StationRepresents s commands packets
    → (done : List Packet) × (commands ≡ done ++ s.waiting)

-- a station in state `s` has accepted `commands`, and a decoder has heard all packets that this
-- station has returned. The registers of the decoder were `start` before these packets and are
-- `now` after them.
pub record HasHeardStation (s : Sending) (commands : List Packet) (who : Who) (start : RegisterMap) (who' : Who)
    (now : RegisterMap) : Type 0 where
  pub packets : List Packet
  pub stands : StationRepresents s commands packets
  pub heard : HasHeard packets who start who' now

-- each decoder has heard all packets of a station that has returned no packet
abbrev pub NothingHandedOut : Type 0
NothingHandedOut = (s : Sending) (commands : List Packet) (who : Who) (start : RegisterMap)
    → StationRepresents s commands []
    → HasHeardStation s commands who start who start

-- let a decoder have heard all packets of a station. If the decoder hears the next packet that the
-- station returns, it has again heard all packets of the station.
abbrev pub OneMoreHandedOut : Type 0
OneMoreHandedOut =
    (s new : Sending) (commands : List Packet) (p : Packet) (who who' who'' : Who) (start now after : RegisterMap)
    → HasHeardStation s commands who start who' now → Next s p new → who'' ≡ who' → after ≡ step who' now p
    → HasHeardStation new commands who start who'' after

-- let a decoder have heard all packets that a station has returned. After the station has accepted
-- one more command, the decoder has still heard all packets that the station has returned.
abbrev pub OneMoreAccepted : Type 0
OneMoreAccepted = (s new : Sending) (commands : List Packet) (p : Packet) (who who' : Who) (start now : RegisterMap)
    → HasHeardStation s commands who start who' now
    → ((packets : List Packet) → StationRepresents s commands packets
    → StationRepresents new (commands ++ p ∷ []) packets)
    → HasHeardStation new (commands ++ p ∷ []) who start who' now

-- let a decoder have heard all packets that a station has returned. After the station has forgotten
-- entries, the decoder has still heard all packets that the station has returned.
abbrev pub EntriesForgotten : Type 0
EntriesForgotten = (s new : Sending) (commands : List Packet) (who who' : Who) (start now : RegisterMap)
    → HasHeardStation s commands who start who' now
    → ((packets : List Packet) → StationRepresents s commands packets → StationRepresents new commands packets)
    → HasHeardStation new commands who start who' now

-- let no command wait, and let a decoder have heard all packets that the station has returned. Then
-- each register except Pending has its value in `result who start (intended commands)`.
abbrev pub HeardIsIntended : Type 0
HeardIsIntended = (s : Sending) (commands : List Packet) (who who' : Who) (start now : RegisterMap)
    (register : Register)
    → HasHeardStation s commands who start who' now → s.waiting ≡ [] → register ≢ registers.Pending
    → now register ≡ result who start (intended commands) register
