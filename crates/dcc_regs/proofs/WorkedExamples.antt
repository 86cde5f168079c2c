-- Worked examples of the definitions, by computation. They hold the definitions themselves, whatever the decoders do.
use Rattle.std.proofs.Common.{◌≡◌, ◌≤◌, ℕ, Bool, true, false, List, [], ◌∷◌, refl, arith}
use Rattle.std.specs.Prelude.{Option, None, Some, ◌==◌, if◌then◌else◌}
use Rattle.dcc_packet.specs.declared.address.Address.{Address}
use Rattle.dcc_packet.specs.declared.address.Address.TheVariants.{Broadcast, Short}
use Rattle.dcc_packet.specs.declared.cv.CvNumber.{CvNumber}
use Rattle.dcc_packet.specs.declared.cv.BitPlace.{BitPlace}
use Rattle.dcc_packet.specs.declared.instruction.What.TheVariants.{Reset, Speed28, Speed128}
use Rattle.dcc_packet.specs.declared.instruction.What.TheVariants.{BinaryState, CvWrite, CvBitWrite}
use Rattle.dcc_packet.specs.declared.packet.Packet.{Packet}
use Rattle.dcc_packet.specs.declared.packet.Packet.TheVariants.{Idle, Loco as ToLoco, Accessory}
use Rattle.dcc_regs.specs.declared.register.Register.{Register}
use Rattle.dcc_regs.specs.declared.register.Register.TheVariants.{Speed as SpeedRegister, Direction, Function}
use Rattle.dcc_regs.specs.declared.register.Register.TheVariants.{State as StateRegister, CvBit}
use Rattle.dcc_regs.specs.declared.register.Register.TheVariants.{Pending as PendingRegister, Out, Position}
use Rattle.dcc_regs.specs.declared.register.Speed.TheVariants.{Stop, Emergency, Step14, Step28, Step126}
use Rattle.dcc_regs.specs.declared.register.Value.{Value}
use Rattle.dcc_regs.specs.declared.register.Value.TheVariants.{Speed as SpeedValue, Forward, Flag, Number}
use Rattle.dcc_regs.specs.declared.register.Value.TheVariants.{Pending as PendingValue}
use Rattle.dcc_regs.specs.declared.register.Who.TheVariants.{Loco as LocoWho, Board as BoardWho}
use Rattle.dcc_packet.specs.SamePacket.{same}
use Rattle.dcc_regs.specs.Effects.{masked_bit, where_one}
use Rattle.dcc_regs.specs.Heard.{is_sent_to}
use Rattle.dcc_regs.specs.Board.{board_registers, made}
use Rattle.dcc_regs.specs.Loco.{loco_registers, start_content}
use Rattle.dcc_regs.specs.Result.{result}
use Rattle.dcc_regs.specs.Safety.{is_standing, is_stop_packet, can_move, can_have_step}

abbrev short_3 : Address
short_3 = Short (record { number = 3; in_range = (omega arith, omega arith) })

abbrev cv_29 : CvNumber
cv_29 = record { number = 29; in_range = (omega arith, omega arith) }

abbrev cv_8 : CvNumber
cv_8 = record { number = 8; in_range = (omega arith, omega arith) }

abbrev bit_1 : BitPlace
bit_1 = record { place = 1; in_range = omega arith }

abbrev speed : Address → (n : ℕ) → n ≤ 31 → Bool → Packet
speed to n fits forward = ToLoco to (Speed28 forward (record { bits = n; in_range = fits }))

-- forward at the bits 9, which are step 3 of 14 with F0 on, or step 6 of 28
abbrev x : Packet
x = speed short_3 9 (omega arith) true

-- bit 1 of CV29 is made zero, and one
abbrev to_14 : Packet
to_14 = ToLoco short_3 (CvBitWrite cv_29 bit_1 false)

abbrev to_28 : Packet
to_28 = ToLoco short_3 (CvBitWrite cv_29 bit_1 true)

-- CV29 is made 6, whose bit 2 is one
abbrev w : Packet
w = ToLoco short_3 (CvWrite cv_29 6)

-- a write to CV8
abbrev maker : Packet
maker = ToLoco short_3 (CvWrite cv_8 255)

-- the broadcast stop with C = 0 and with C = 1, backwards
abbrev stop : Packet
stop = speed Broadcast 0 (omega arith) false

abbrev emergency : Packet
emergency = speed Broadcast 3 (omega arith) false

-- what a decoder of short address 3, just made, holds in a register after a list of packets: CV1 = 3, CV29 as given,
-- all others 0
abbrev after : ℕ → List Packet → Register → Option Value
after cv29 l =
    result (LocoWho (Some short_3))
    (loco_registers (start_content (λ n. if n == 1 then 3 else if n == 29 then cv29 else 0)))
    l

-- a step of 28 and a step of 128 for all locomotives, and the emergency stop of 128 steps
abbrev step_for_all : Packet
step_for_all = speed Broadcast 9 (omega arith) true

abbrev speed_128 : (n : ℕ) → n ≤ 127 → Packet
speed_128 n fits = ToLoco Broadcast (Speed128 true (record { bits = n; in_range = fits }))

abbrev fast_for_all : Packet
fast_for_all = speed_128 5 (omega arith)

abbrev emergency_128 : Packet
emergency_128 = speed_128 1 (omega arith)

-- outputs of a board
abbrev switched : (board : ℕ) → board ≤ 511 → (output : ℕ) → output ≤ 7 → Packet
switched board h output k =
    Accessory (record { number = board; in_range = h }) (record { number = output; in_range = k }) true

-- what board 12, just made, holds in a register after a list of packets
abbrev board_after : List Packet → Register → Option Value
board_after l = result (BoardWho (record { number = 12; in_range = omega arith })) (board_registers made) l

abbrev five : Packet
five = switched 12 (omega arith) 5 (omega arith)

abbrev four : Packet
four = switched 12 (omega arith) 4 (omega arith)

abbrev all_zero : Packet
all_zero = switched 511 (omega arith) 0 (omega arith)

abbrev reset : Packet
reset = ToLoco Broadcast Reset

abbrev on : Option Value
on = Some (Flag true)

abbrev off : Option Value
off = Some (Flag false)

-- binary states of short address 3, and of all locomotives
abbrev state : Address → (n : ℕ) → n ≤ 127 → Bool → Packet
state to n fits up = ToLoco to (BinaryState (record { number = n; in_range = fits }) up)

abbrev five_up : Packet
five_up = state short_3 5 (omega arith) true

abbrev five_down : Packet
five_down = state short_3 5 (omega arith) false

abbrev all_up : Packet
all_up = state short_3 0 (omega arith) true

abbrev five_up_for_all : Packet
five_up_for_all = state Broadcast 5 (omega arith) true

abbrev own_reset : Packet
own_reset = ToLoco short_3 Reset

record Rows : Type 0 where
  -- binary states: one of them, all of them, none after a reset, in either mode
  state_up : after 2 (five_up ∷ []) (StateRegister 5) ≡ on
  state_before : after 2 (five_up ∷ []) (StateRegister 4) ≡ off
  state_behind : after 2 (five_up ∷ []) (StateRegister 6) ≡ off
  state_in_14 : after 0 (five_up ∷ []) (StateRegister 5) ≡ on
  no_function : after 0 (five_up ∷ []) (Function 5) ≡ off
  first_of_all : after 2 (all_up ∷ []) (StateRegister 1) ≡ on
  last_of_all : after 2 (all_up ∷ []) (StateRegister 127) ≡ on
  all_but_one : after 2 (all_up ∷ five_down ∷ []) (StateRegister 5) ≡ off
  one_of_126 : after 2 (all_up ∷ five_down ∷ []) (StateRegister 127) ≡ on
  state_reset : after 2 (five_up ∷ own_reset ∷ []) (StateRegister 5) ≡ off
  last_reset : after 2 (all_up ∷ reset ∷ []) (StateRegister 127) ≡ off
  state_for_all : after 2 (five_up_for_all ∷ []) (StateRegister 5) ≡ on
  no_state_0 : after 2 (all_up ∷ []) (StateRegister 0) ≡ None
  no_state_128 : after 2 (all_up ∷ []) (StateRegister 128) ≡ None
  state_between : after 2 (w ∷ five_up ∷ w ∷ []) (CvBit 29 2) ≡ off
  no_state_of_boards : board_after (five_up_for_all ∷ []) (StateRegister 5) ≡ None
  -- one instruction in each mode
  in_28 : after 2 (x ∷ []) SpeedRegister ≡ Some (SpeedValue (Step28 6))
  in_28_f0 : after 2 (x ∷ []) (Function 0) ≡ off
  in_14 : after 0 (x ∷ []) SpeedRegister ≡ Some (SpeedValue (Step14 3))
  in_14_f0 : after 0 (x ∷ []) (Function 0) ≡ on
  -- each in the mode that the packets before it leave
  mode_then : after 2 (x ∷ to_14 ∷ to_14 ∷ x ∷ to_28 ∷ to_28 ∷ x ∷ []) (Function 0) ≡ on
  mode_now : after 2 (x ∷ to_14 ∷ to_14 ∷ to_28 ∷ to_28 ∷ x ∷ []) (Function 0) ≡ off
  -- a write takes effect at its second copy, whatever was not heard in between
  written_once : after 2 (w ∷ []) (CvBit 29 2) ≡ off
  pending_once : after 2 (w ∷ []) PendingRegister ≡ Some (PendingValue (Some w))
  written_twice : after 2 (w ∷ w ∷ []) (CvBit 29 2) ≡ on
  written_thrice : after 2 (w ∷ w ∷ w ∷ []) (CvBit 29 2) ≡ on
  idle_between : after 2 (w ∷ Idle ∷ w ∷ []) (CvBit 29 2) ≡ on
  stop_between : after 2 (w ∷ stop ∷ w ∷ []) (CvBit 29 2) ≡ off
  own_between : after 2 (w ∷ x ∷ w ∷ []) (CvBit 29 2) ≡ off
  read_only : after 2 (maker ∷ maker ∷ []) (CvBit 8 0) ≡ off
  -- a broadcast stop sets the direction where C is zero alone
  emergency_forward : after 2 (emergency ∷ []) Direction ≡ Some (Forward true)
  stop_backwards : after 2 (emergency ∷ stop ∷ []) Direction ≡ Some (Forward false)
  -- all locomotives: a step of 28 moves none of them, a step of 128 moves them
  no_step_for_all : after 2 (step_for_all ∷ []) SpeedRegister ≡ Some (SpeedValue Stop)
  step_for_all_moves_none : can_move step_for_all ≡ false
  step_for_all_has_none : can_have_step step_for_all ≡ false
  fast_together : after 2 (fast_for_all ∷ []) SpeedRegister ≡ Some (SpeedValue (Step126 4))
  fast_moves : can_move fast_for_all ≡ true
  own_step_moves : can_move x ≡ true
  stopped_together : after 2 (fast_for_all ∷ emergency_128 ∷ []) SpeedRegister ≡ Some (SpeedValue Emergency)
  stop_stops : is_stop_packet stop ≡ true
  emergency_stops : is_stop_packet emergency_128 ≡ true
  emergency_moves_none : can_move emergency_128 ≡ false
  reset_stops : is_stop_packet reset ≡ true
  write_stops_none : is_stop_packet w ≡ false
  -- boards
  five_on : board_after (five ∷ four ∷ []) (Out 5) ≡ on
  four_on : board_after (five ∷ four ∷ []) (Out 4) ≡ on
  side_0 : board_after (five ∷ four ∷ []) (Position 2) ≡ Some (Number 0)
  side_1 : board_after (five ∷ []) (Position 2) ≡ Some (Number 1)
  zero_on : board_after (five ∷ all_zero ∷ []) (Out 0) ≡ on
  zero_off : board_after (five ∷ all_zero ∷ reset ∷ []) (Out 0) ≡ off
  side_kept : board_after (five ∷ reset ∷ []) (Position 2) ≡ Some (Number 1)
  -- a mask of the bits 1 and 2, of which bit 2 is one
  masked_one : masked_bit 6 4 2 ≡ Some true
  masked_zero : masked_bit 6 4 1 ≡ Some false
  masked_none : masked_bit 6 4 0 ≡ None
  chosen_signal : where_one 8 on 3 ≡ Some on
  other_signal : where_one 8 on 2 ≡ None
  -- a frame to all locomotives, one to the short address 3, and one to the long address 3
  to_all : is_sent_to None (0 ∷ 0 ∷ 0 ∷ []) ≡ true
  to_own : is_sent_to (Some short_3) (3 ∷ 96 ∷ 99 ∷ []) ≡ true
  to_another : is_sent_to (Some short_3) (4 ∷ 96 ∷ 100 ∷ []) ≡ false
  to_long_3 : is_sent_to (Some short_3) (192 ∷ 3 ∷ 96 ∷ 163 ∷ []) ≡ false
  idle_is_for_none : is_sent_to (Some short_3) (255 ∷ 0 ∷ 255 ∷ []) ≡ false

rows : Rows
unfolding same is_sent_to
rows = record {
  state_up = refl;
  state_before = refl;
  state_behind = refl;
  state_in_14 = refl;
  no_function = refl;
  first_of_all = refl;
  last_of_all = refl;
  all_but_one = refl;
  one_of_126 = refl;
  state_reset = refl;
  last_reset = refl;
  state_for_all = refl;
  no_state_0 = refl;
  no_state_128 = refl;
  state_between = refl;
  no_state_of_boards = refl;
  in_28 = refl;
  in_28_f0 = refl;
  in_14 = refl;
  in_14_f0 = refl;
  mode_then = refl;
  mode_now = refl;
  written_once = refl;
  pending_once = refl;
  written_twice = refl;
  written_thrice = refl;
  idle_between = refl;
  stop_between = refl;
  own_between = refl;
  read_only = refl;
  emergency_forward = refl;
  stop_backwards = refl;
  no_step_for_all = refl;
  step_for_all_moves_none = refl;
  step_for_all_has_none = refl;
  fast_together = refl;
  fast_moves = refl;
  own_step_moves = refl;
  stopped_together = refl;
  stop_stops = refl;
  emergency_stops = refl;
  emergency_moves_none = refl;
  reset_stops = refl;
  write_stops_none = refl;
  five_on = refl;
  four_on = refl;
  side_0 = refl;
  side_1 = refl;
  zero_on = refl;
  zero_off = refl;
  side_kept = refl;
  masked_one = refl;
  masked_zero = refl;
  masked_none = refl;
  chosen_signal = refl;
  other_signal = refl;
  to_all = refl;
  to_own = refl;
  to_another = refl;
  to_long_3 = refl;
  idle_is_for_none = refl;
}

-- a decoder without a speed does not stand, and neither does a locomotive with a step
no_speed_is_no_stop : is_standing None ≡ false
no_speed_is_no_stop = refl

emergency_stop_stands : is_standing (Some (SpeedValue Emergency)) ≡ true
emergency_stop_stands = refl

step_does_not_stand : is_standing (Some (SpeedValue (Step28 1))) ≡ false
step_does_not_stand = refl
