-- The half-bits that a station sends (NMRA S-9.1, S-9.2; RCN-210, RCN-211).
use Rattle.std.specs.Prelude.{ℕ, ◌+◌, ◌-◌, Bool, true, false, List, [], ◌∷◌, ◌++◌, length, replicate}
use Rattle.dcc_wire.specs.declared.timing.Timing.{Timing}
use Rattle.dcc_wire.specs.declared.seen.Seen.{Seen}
use Rattle.dcc_wire.specs.declared.seen.Seen.TheVariants.{Packet}
use Rattle.dcc_wire.specs.Frames.{IsFrame}
use Rattle.dcc_wire.specs.Bodies.{body_bits}

-- the durations of the half-bits that a station sends for `bits` with `timing`
unfoldable pub durations_of : Timing → List Bool → List ℕ
durations_of timing [] = []
durations_of timing (true ∷ bits) = timing.one ∷ timing.one ∷ durations_of timing bits
durations_of timing (false ∷ bits) = timing.zero_first ∷ timing.zero_second ∷ durations_of timing bits

-- the bits of a packet: `preamble` ones, and the body of `bytes`
unfoldable pub sent_bits : List ℕ → ℕ → List Bool
sent_bits bytes preamble = replicate preamble true ++ body_bits bytes

-- the durations of the half-bits that a station sends for the packet with the bytes `bytes` and the
-- timing `timing`
unfoldable pub sent : List ℕ → Timing → List ℕ
sent bytes timing = durations_of timing (sent_bits bytes timing.preamble)

-- a packet that is sent: its bytes and its timing
pub record Sent : Type 0 where
  pub bytes : List ℕ
  pub timing : Timing

-- the durations of the half-bits of `packets`, which are sent one after the other
unfoldable pub sent_all : List Sent → List ℕ
sent_all [] = []
sent_all (packet ∷ packets) = sent packet.bytes packet.timing ++ sent_all packets

-- each packet of `packets` as an outcome, at the place of its last half-bit. `place` is the place
-- of the first half-bit of the first packet.
unfoldable pub at_last_halves : ℕ → List Sent → List (ℕ × Seen)
at_last_halves place [] = []
at_last_halves place (packet ∷ packets) =
    let next = place + length (sent packet.bytes packet.timing) in
    (next - 1, Packet packet.bytes) ∷ at_last_halves next packets

-- each of the `packets` has the bytes of a frame
unfoldable pub AllFrames : List Sent → Type 0
AllFrames [] = Unit {0}
AllFrames (packet ∷ packets) = IsFrame packet.bytes × AllFrames packets
