-- Theorems about the definitions.
use Rattle.std.specs.Prelude.{Some, ◌≡◌, ◌≢◌, ◌<◌, ◌⊎◌, ℕ, Bool, true, false, nat_le, None, List, [], ◌∷◌, ◌++◌}
use Rattle.std.specs.Prelude.{if◌then◌else◌}
use Rattle.dcc_packet.specs.declared.accessory.Board.{Board as OwnBoard}
use Rattle.dcc_packet.specs.declared.address.Address.{Address}
use Rattle.dcc_packet.specs.declared.address.Address.TheVariants.{Broadcast}
use Rattle.dcc_packet.specs.declared.instruction.What.{What}
use Rattle.dcc_packet.specs.declared.packet.Packet.{Packet}
use Rattle.dcc_packet.specs.declared.packet.Packet.TheVariants.{Idle, Loco as ToLoco}
use Rattle.dcc_regs.specs.declared.register.Who.{Who}
use Rattle.dcc_regs.specs.declared.register.Who.TheVariants.{Board as BoardWho}
use Rattle.dcc_regs.specs.declared.register.Register.{Register}
use Rattle.dcc_regs.specs.declared.register.SpeedMode.{SpeedMode}
use Rattle.dcc_regs.specs.declared.register.Value.{Value}
use Rattle.dcc_regs.specs.Heard.{hears}
use Rattle.dcc_regs.specs.Board.{BoardContent, TakesPacket, board_registers}
use Rattle.dcc_regs.specs.Conflict.{Conflict}
use Rattle.dcc_regs.specs.Possible.{IsPossible}
use Rattle.dcc_regs.specs.Sets.{sets}
use Rattle.dcc_regs.specs.Writes.{is_own_write, writes_cv29}
use Rattle.dcc_regs.specs.Result.{RegisterMap, HasHeard, result, step}
use Rattle.dcc_regs.specs.Notes.{Note, note_of, packet_told}
use Rattle.dcc_regs.specs.Setting.{mode_in, set_from, value_over}

-- the result of the list `first ++ second` can be computed in two steps: it is `result who (result
-- who start first) second`
abbrev pub ResultInParts : Type 0
ResultInParts =
    (who : Who) (start : RegisterMap) (first second : List Packet)
    → result who start (first ++ second) ≡ result who (result who start first) second

-- if the identity and the registers of a decoder do not change, the decoder has heard the empty
-- list of packets
abbrev pub NoPacketHeard : Type 0
NoPacketHeard = (who : Who) (start : RegisterMap) → HasHeard [] who start who start

-- if a decoder has heard a list `l`, and then one more packet `p`, it has heard `l` followed by `p`
abbrev pub OneMorePacketHeard : Type 0
OneMorePacketHeard =
    (l : List Packet) (p : Packet) (who who' who'' : Who) (start now after : RegisterMap)
    → HasHeard l who start who' now
    → who'' ≡ who' → after ≡ step who' now p → HasHeard (l ++ p ∷ []) who start who'' after

-- let a heard packet `p` change the content of an accessory decoder from `d` to `d'`. The registers
-- of content `d'` are then `step who (board_registers d) p`.
abbrev pub BoardsTakePackets : Type 0
BoardsTakePackets =
    (who : Who) (p : Packet) (d d' : BoardContent) (is_heard : Bool) → is_heard ≡ hears who p → is_heard ≡ true
    → TakesPacket p d d' → board_registers d' ≡ step who (board_registers d) p

-- if an accessory decoder has a number of at most 510, and all its aspects are bytes, its identity
-- and its registers are possible
abbrev pub BoardsArePossible : Type 0
BoardsArePossible =
    (board : OwnBoard) (d : BoardContent) → nat_le board.number 510 ≡ true → ((n : ℕ) → d.aspects n < 256)
    → IsPossible (BoardWho board) (board_registers d)

-- let a decoder get a packet. If the decoder hears the packet, each register for which `set_from`
-- has a value gets this value, and no other register changes. If the decoder does not hear the
-- packet, no register changes.
abbrev pub StepSets : Type 0
StepSets =
    (who : Who) (start : RegisterMap) (p : Packet) (r : Register)
    → step who start p r ≡ (if hears who p then value_over (start r) (set_from start p r) else start r)

-- `note_of` of a packet is a callback that notifies of this packet
abbrev pub NotesTellPackets : Type 0
NotesTellPackets = (p : Packet) → packet_told (note_of p) ≡ Some p

-- `note_of` of a packet is the only callback that notifies of this packet
abbrev pub NoOtherCallTells : Type 0
NoOtherCallTells = (note : Note) (p : Packet) → packet_told note ≡ Some p → note ≡ note_of p

-- no decoder hears the idle packet
abbrev pub IdleIsUnheard : Type 0
IdleIsUnheard = (who : Who) → hears who Idle ≡ false

-- if a decoder hears two packets with addresses other than the broadcast, the two addresses are
-- equal
abbrev pub OneAddress : Type 0
OneAddress =
    (who : Who) (a b : Address) (x y : What) → a ≢ Broadcast → b ≢ Broadcast → hears who (ToLoco a x) ≡ true
    → hears who (ToLoco b y) ≡ true → a ≡ b

-- a packet that does not write CV29 leaves the speed mode of a decoder unchanged
abbrev pub ModeStays : Type 0
ModeStays =
    (who : Who) (start : RegisterMap) (p : Packet) → writes_cv29 p ≡ false → mode_in (step who start p) ≡ mode_in start

-- a CV write with an address other than the broadcast sets no plain register
abbrev pub WritesSetNoPlain : Type 0
WritesSetNoPlain = (mode : SpeedMode) (p : Packet) (r : Register) → is_own_write p ≡ true → sets mode p r ≡ None

-- if `p` conflicts with `q`, then `q` conflicts with `p`
abbrev pub ConflictIsMutual : Type 0
ConflictIsMutual = (p q : Packet) → Conflict p q → Conflict q p

-- no packet conflicts with itself
abbrev pub NoConflictWithItself : Type 0
NoConflictWithItself = (p : Packet) → Conflict p p → ⊥

-- two packets are equal or different: equality of packets is decidable
abbrev pub PacketsAreDecided : Type 0
PacketsAreDecided = (p q : Packet) → (p ≡ q) ⊎ (p ≢ q)

-- two values of registers are equal or different: equality of values is decidable
abbrev pub ValuesAreDecided : Type 0
ValuesAreDecided = (v w : Value) → (v ≡ w) ⊎ (v ≢ w)
