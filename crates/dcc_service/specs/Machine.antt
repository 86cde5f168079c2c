-- Service mode: the effect of a frame on a decoder on the programming track (NMRA S-9.2.3, direct
-- mode).
use Rattle.std.specs.Prelude.{◌≡◌, ◌≢◌, ℕ, ◌==◌, Bool, true, false, Option, Some, None, List, [], ◌∷◌}
use Rattle.std.specs.Int.{bit_at}
use Rattle.dcc_wire.specs.Frames.{with_error_byte}
use Rattle.dcc_packet.specs.Bits.{with_bit}
use Rattle.dcc_packet.specs.Rows.{bit}
use Rattle.dcc_service.specs.declared.packet.ServicePacket.{ServicePacket}
use Rattle.dcc_service.specs.declared.packet.ServicePacket.TheVariants.{Write, Verify, BitWrite, BitVerify}
use Rattle.dcc_packet.specs.Cvs.{cv_in, is_writable, written}
use Rattle.dcc_service.specs.Table.{service_spelling}

-- the state of a decoder on the programming track: true if it is in service mode, its pending
-- packet, and its CVs
pub record ServiceState : Type 0 where
  pub in_service : Bool
  pub pending : Option ServicePacket
  pub cvs : List ℕ

-- the bytes of the frame of the broadcast reset
abbrev pub reset_bytes : List ℕ
reset_bytes = with_error_byte (0 ∷ 0 ∷ [])

-- the CVs of a decoder after it has executed a service packet. Before the packet, its CVs were
-- `cvs`.
abbrev pub acted_on : ServicePacket → List ℕ → List ℕ
acted_on (Write cv value) cvs = written cvs cv value
acted_on (Verify cv value) cvs = cvs
acted_on (BitWrite cv bits one) cvs = written cvs cv (with_bit (cv_in cvs cv.number) bits.place one)
acted_on (BitVerify cv bits one) cvs = cvs

-- true if a decoder with the CVs `cvs` acknowledges a service packet that it executes. The decoder
-- acknowledges a write to each CV except CV7 and CV8, and a comparison of equal values.
abbrev pub is_acknowledged : ServicePacket → List ℕ → Bool
is_acknowledged (Write cv value) cvs = is_writable cv
is_acknowledged (Verify cv value) cvs = cv_in cvs cv.number == value
is_acknowledged (BitWrite cv bits one) cvs = is_writable cv
is_acknowledged (BitVerify cv bits one) cvs = bit_at (cv_in cvs cv.number) bits.place == bit one

-- A decoder in state `before` that gets `frame` goes to state `after`. The decoder acknowledges
-- `frame` if and only if `answer` is true.
pub record Step (before : ServiceState) (frame : List ℕ) (after : ServiceState) (answer : Bool) : Type 0 where
  -- the reset leads to service mode without a pending packet
  pub reset : frame ≡ reset_bytes
      → (after ≡ record { in_service = true; pending = None; cvs = before.cvs }) × (answer ≡ false)
  -- in service mode, a service packet that differs from the pending packet becomes pending
  pub first : (packet : ServicePacket) → frame ≡ service_spelling packet → before.in_service ≡ true
      → before.pending ≢ Some packet
      → (after ≡ record { in_service = true; pending = Some packet; cvs = before.cvs }) × (answer ≡ false)
  -- in service mode, a service packet that equals the pending packet is executed and stays pending
  pub again : (packet : ServicePacket) → frame ≡ service_spelling packet → before.in_service ≡ true
      → before.pending ≡ Some packet
      → (after ≡ record { in_service = true; pending = Some packet; cvs = acted_on packet before.cvs })
      × (answer ≡ is_acknowledged packet before.cvs)
  -- any other packet, for example an idle packet, ends service mode. Then no packet is pending.
  pub other : frame ≢ reset_bytes → ((packet : ServicePacket) → frame ≢ service_spelling packet)
      → before.in_service ≡ true
      → (after ≡ record { in_service = false; pending = None; cvs = before.cvs }) × (answer ≡ false)
  -- outside of service mode, a decoder ignores each packet except the reset
  pub ignored : frame ≢ reset_bytes → before.in_service ≡ false → (after ≡ before) × (answer ≡ false)
