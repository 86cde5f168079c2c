-- The binary states that a packet turns on and off (RCN-212, short form).
use Rattle.std.specs.Prelude.{ℕ, Bool, false, ◌&&◌, ◌||◌, ◌==◌, nat_le, Option, None, Some, if◌then◌else◌}
use Rattle.dcc_packet.specs.declared.instruction.What.{What}
use Rattle.dcc_packet.specs.declared.instruction.What.TheVariants.{Reset, BinaryState}
use Rattle.dcc_packet.specs.declared.packet.Packet.{Packet}
use Rattle.dcc_packet.specs.declared.packet.Packet.TheVariants.{Loco as ToLoco}

-- true if `n` is the number of a binary state, 1 to 127
abbrev pub is_binary_state : ℕ → Bool
is_binary_state n = nat_le 1 n && nat_le n 127

-- the number of the binary state that an instruction sets, and the new value of this state. The
-- number 0 means all states from 1 to 127. A reset sets all states to off.
abbrev pub states_in : What → Option (ℕ × Bool)
states_in Reset = Some (0, false)
states_in (BinaryState state on) = Some (state.number, on)
states_in x = None

-- the number of the binary state that a packet sets, and the new value of this state. The number 0
-- means all states.
abbrev pub turned_states : Packet → Option (ℕ × Bool)
turned_states (ToLoco to what) = states_in what
turned_states x = None

-- let a pair have the number of a binary state and a value. The result is the value to which the
-- pair sets state `n`, or `None` if the pair does not set state `n`.
abbrev pub state_by : Option (ℕ × Bool) → ℕ → Option Bool
state_by None n = None
state_by (Some told) n = if is_binary_state n && (told.0 == 0 || n == told.0) then Some told.1 else None

-- the value to which packet `p` sets binary state `n`, or `None` if `p` does not set state `n`. The
-- speed mode does not matter, and packets to the broadcast address set states too.
abbrev pub state_set : Packet → ℕ → Option Bool
state_set p n = state_by (turned_states p) n
