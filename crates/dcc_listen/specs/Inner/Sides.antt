-- The states of the two sources from which a comparison gets packets. A source is a capture that is
-- read, or a list of stored packets.
use Rattle.std.specs.Prelude.{◌≡◌, ℕ, ◌<◌, ◌^◌, ◌++◌, ◌⊎◌, Bool, true, false, List, None, length}
use Rattle.dcc_packet.specs.declared.packet.Packet.{Packet}
use Rattle.dcc_wire.specs.declared.framer.Framer.{Framer}
use Rattle.dcc_order.specs.GivenLists.{MayFollow}
use Rattle.dcc_io.specs.declared.fault.ToolFault.{ToolFault}
use Rattle.dcc_io.specs.declared.fault.ToolFault.TheVariants.{NoMemory}
use Rattle.dcc_io.specs.InputState.{InputState}
use Rattle.dcc_listen.specs.declared.side.Progress.{Progress}
use Rattle.dcc_listen.specs.Gathered.{Gathered}
use Rattle.dcc_listen.specs.Taking.{Gathering}

-- `packets` are the packets that were read from a capture between the states `start` and `now` of
-- its input. If the first argument is true, the whole capture was read.
abbrev pub SideRead : Bool → InputState → InputState → List ℕ → Framer → List Packet → Type 0
SideRead false start now pending framer packets = Gathering start now pending framer packets
SideRead true start now pending framer packets = Gathered start packets now

-- `packets` are the packets that were read from a capture between the states `start` and `now` of
-- its input. `progress` is the state of this reading.
pub record CaptureTook (start now : InputState) (packets : List Packet) (progress : Progress) : Type 0 where
  pub none_kept : start.fault ≡ None
  pub few : start.halves < 2 ^ 32
  pub read : SideRead progress.ended start now progress.pending progress.framer packets

-- `packets` were read from the stored packets `start`, and the packets `now` are still to be read.
-- If `ended` is true, there is no packet in `now`.
pub record HeldTook (start now packets : List Packet) (ended : Bool) : Type 0 where
  pub few : length start < 2 ^ 32
  pub whole : start ≡ packets ++ now
  pub all : MayFollow ended now

-- the packets `packets` of a source were read, and then all its remaining packets. After all
-- packets, the state of the reading is `progress`. If `ended` is true, there were no remaining
-- packets.
pub record TakesRest (Took : List Packet → Progress → Type 0) (packets : List Packet) (ended : Bool)
    (progress : Progress)
    : Type 0 where
  pub more : List Packet
  pub may : MayFollow ended more
  pub took : Took (packets ++ more) progress
  pub all : progress.ended ≡ true

-- any number of packets of a source were read
abbrev pub TakesSome : (List Packet → Progress → Type 0) → Type 0
TakesSome Took = (packets : List Packet) × (progress : Progress) × Took packets progress

abbrev pub TakesAll : (List Packet → Progress → Type 0) → List Packet → Type 0
TakesAll Took packets = (progress : Progress) × (progress.ended ≡ true) × Took packets progress

-- one of two sources has the error `fault`, or `fault` is U6 and an allocation failed. Any number
-- of packets of the other source was read.
abbrev pub OneStops : (ToolFault → Type 0) → (List Packet → Progress → Type 0) → (ToolFault → Type 0)
    → (List Packet → Progress → Type 0) → ToolFault → Type 0
OneStops Fails Took OtherFails OtherTook fault =
    (Fails fault × TakesSome OtherTook) ⊎ (TakesSome Took × OtherFails fault)
    ⊎ ((fault ≡ NoMemory) × TakesSome Took × TakesSome OtherTook)
