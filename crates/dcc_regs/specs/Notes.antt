-- The callbacks of a listener, one callback for each kind of packet.
use Rattle.std.specs.Prelude.{◌≡◌, ℕ, Bool, true, false, Option, Some, None, [], ◌∷◌, if◌then◌else◌}
use Rattle.dcc_packet.specs.declared.accessory.Board.{Board}
use Rattle.dcc_packet.specs.declared.accessory.Output.{Output}
use Rattle.dcc_packet.specs.declared.accessory.SignalAddress.{SignalAddress}
use Rattle.dcc_packet.specs.declared.address.Address.{Address}
use Rattle.dcc_packet.specs.declared.functions.GroupBits.{GroupBits}
use Rattle.dcc_packet.specs.declared.state.StateNumber.{StateNumber}
use Rattle.dcc_packet.specs.Instruction.{is_cv_access}
use Rattle.dcc_packet.specs.declared.instruction.What.{What}
use Rattle.dcc_packet.specs.declared.instruction.What.TheVariants.{Reset, Speed28, Speed128, Functions, BinaryState}
use Rattle.dcc_packet.specs.declared.instruction.What.TheVariants.{CvWrite, CvVerify, CvBitWrite, CvBitVerify}
use Rattle.dcc_packet.specs.declared.packet.Packet.{Packet}
use Rattle.dcc_packet.specs.declared.packet.Packet.TheVariants.{Idle, Loco as ToLoco, Accessory, Signal, Other}
use Rattle.dcc_packet.specs.declared.packet.OtherFrame.{OtherFrame}
use Rattle.dcc_regs.specs.declared.register.Who.{Who}
use Rattle.dcc_regs.specs.Heard.{hears}
use Rattle.dcc_regs.specs.Result.{RegisterMap, HasHeard}

-- a callback of a listener, with the arguments of the call
pub data Note : Type 0 where
  IdleCall : Note
  ResetCall : Address → Note
  SpeedCall : Address → What → Note
  FunctionsCall : Address → GroupBits → Note
  StateCall : Address → StateNumber → Bool → Note
  CvAccessCall : Address → What → Note
  TurnoutCall : Board → Output → Bool → Note
  SignalCall : SignalAddress → ℕ → Note
  OtherCall : OtherFrame → Note

-- the callback for an instruction that is sent to address `to`
abbrev pub loco_note : Address → What → Note
loco_note to Reset = ResetCall to
loco_note to (Speed28 forward bits) = SpeedCall to (Speed28 forward bits)
loco_note to (Speed128 forward bits) = SpeedCall to (Speed128 forward bits)
loco_note to (Functions bits) = FunctionsCall to bits
loco_note to (BinaryState state on) = StateCall to state on
loco_note to (CvWrite cv value) = CvAccessCall to (CvWrite cv value)
loco_note to (CvVerify cv value) = CvAccessCall to (CvVerify cv value)
loco_note to (CvBitWrite cv place one) = CvAccessCall to (CvBitWrite cv place one)
loco_note to (CvBitVerify cv place one) = CvAccessCall to (CvBitVerify cv place one)

-- the callback of a listener for a packet
abbrev pub note_of : Packet → Note
note_of Idle = IdleCall
note_of (ToLoco to what) = loco_note to what
note_of (Accessory board output on) = TurnoutCall board output on
note_of (Signal address aspect) = SignalCall address aspect
note_of (Other frame) = OtherCall frame

-- true if the instruction sets speed and direction
abbrev pub is_speed_instruction : What → Bool
is_speed_instruction (Speed28 forward bits) = true
is_speed_instruction (Speed128 forward bits) = true
is_speed_instruction x = false

-- the packet with address `to` and instruction `what` if `of_its_kind` is true, otherwise `None`
abbrev pub told_if : Bool → Address → What → Option Packet
told_if of_its_kind to what = if of_its_kind then Some (ToLoco to what) else None

-- the packet of which a callback notifies. If a listener has another callback for the instruction
-- of this callback, the result is `None`.
abbrev pub packet_told : Note → Option Packet
packet_told IdleCall = Some Idle
packet_told (ResetCall to) = Some (ToLoco to Reset)
packet_told (SpeedCall to what) = told_if (is_speed_instruction what) to what
packet_told (FunctionsCall to bits) = Some (ToLoco to (Functions bits))
packet_told (StateCall to state on) = Some (ToLoco to (BinaryState state on))
packet_told (CvAccessCall to what) = told_if (is_cv_access what) to what
packet_told (TurnoutCall board output on) = Some (Accessory board output on)
packet_told (SignalCall address aspect) = Some (Signal address aspect)
packet_told (OtherCall frame) = Some (Other frame)

-- a decoder has heard packet `p`, and the listener was notified of `p` if and only if the decoder
-- hears `p`
pub record IsHeardAndTold {L : Type 0} (told : L → Note → L → Type 0) (p : Packet) (who : Who) (start : RegisterMap)
    (who' : Who) (now : RegisterMap) (listener listener' : L) : Type 0 where
  pub heard : HasHeard (p ∷ []) who start who' now
  pub tells : hears who p ≡ true → told listener (note_of p) listener'
  pub passes_over : hears who p ≡ false → listener' ≡ listener
