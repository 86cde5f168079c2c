-- The fields of a packet mean the packet.
use Rattle.std.proofs.Common.{◌≡◌, ℕ, Ok, Err, Result, refl, ap, ◌∙◌}
use Rattle.std.specs.Prelude.{◌≢◌}
use Rattle.dcc_packet.specs.declared.accessory.Board.{Board}
use Rattle.dcc_packet.specs.declared.accessory.Output.{Output}
use Rattle.dcc_packet.specs.declared.accessory.SignalAddress.{SignalAddress}
use Rattle.dcc_packet.specs.declared.address.Address.{Address}
use Rattle.dcc_packet.specs.declared.address.Address.TheVariants.{Broadcast, Short, Long}
use Rattle.dcc_packet.specs.declared.cv.CvNumber.{CvNumber}
use Rattle.dcc_packet.specs.declared.fault.PacketFault.{PacketFault}
use Rattle.dcc_packet.specs.declared.fault.PacketFault.TheVariants as faults
use Rattle.dcc_packet.specs.declared.functions.Group.{Group}
use Rattle.dcc_packet.specs.declared.functions.Group.TheVariants.{F0, F5, F9, F13, F21, F29, F37, F45, F53, F61}
use Rattle.dcc_packet.specs.declared.functions.GroupBits.{GroupBits}
use Rattle.dcc_packet.specs.declared.instruction.What.{What}
use Rattle.dcc_packet.specs.declared.instruction.What.TheVariants.{Reset, Speed28, Speed128, Functions, BinaryState}
use Rattle.dcc_packet.specs.declared.instruction.What.TheVariants.{CvWrite, CvVerify, CvBitWrite, CvBitVerify}
use Rattle.dcc_packet.specs.declared.packet.Packet.{Packet}
use Rattle.dcc_packet.specs.declared.packet.Packet.TheVariants.{Idle, Loco, Accessory, Signal, Other}
use Rattle.dcc_packet.specs.declared.speed.SpeedBits28.{SpeedBits28}
use Rattle.dcc_packet.specs.declared.speed.SpeedBits128.{SpeedBits128}
use Rattle.dcc_packet.specs.declared.state.StateNumber.{StateNumber}
use Rattle.dcc_packet.specs.Group.{group_max}
use Rattle.dcc_packet.specs.LineWords.{◌>>=◌}
use Rattle.dcc_packet.specs.Values.{functions_of, output_of}
use Rattle.dcc_packet.proofs.UpTo.{up_to_ok}
use Rattle.dcc_c.specs.declared.packet.DccPacket.{DccPacket}
use Rattle.dcc_c.specs.PacketFields.{address_of_numbers, functions_of_numbers, group_of_number, loco_of_fields}
use Rattle.dcc_c.specs.PacketFields.{packet_of_fields, what_of_fields}
use Rattle.dcc_c.specs.Packets.{address_kind, address_number, group_number, instruction_numbers, packet_numbers}
use Rattle.dcc_c.proofs.LocoLemmas.{short_back, long_back}
use Rattle.dcc_c.proofs.ReaderLemmas.{cv_back}
use Rattle.dcc_c.proofs.ServicePacketLemmas.{BitResult, bit_back}

pub address_back : (to : Address) → address_of_numbers (address_kind to) (address_number to) ≡ Ok to
address_back Broadcast = refl
address_back (Short own) = short_back own.number own refl
address_back (Long own) = long_back own.number own refl

group_back : (group : Group) → group_of_number (group_number group) ≡ Ok group
group_back F0 = refl
group_back F5 = refl
group_back F9 = refl
group_back F13 = refl
group_back F21 = refl
group_back F29 = refl
group_back F37 = refl
group_back F45 = refl
group_back F53 = refl
group_back F61 = refl

functions_back : (f : GroupBits) → functions_of_numbers (group_number f.group) f.bits ≡ Ok f
functions_back f =
    ap (λ (r : Result Group PacketFault). r >>= λ named. functions_of named f.bits) (group_back f.group)
    ∙ up_to_ok (group_max f.group) f.bits faults.GroupBits
    (λ h. record { group = f.group; bits = f.bits; in_range = h }) f.in_range

what_back : (what : What) (to number : ℕ)
    → what_of_fields (record (instruction_numbers what) { to = to; address = number }) ≡ Ok what
what_back Reset to number = refl
what_back (Speed28 forward speed) to number =
    ap (λ (r : Result SpeedBits28 PacketFault). r >>= λ bits. Ok (Speed28 forward bits))
    (up_to_ok 31 speed.bits faults.SpeedBits (λ h. record { bits = speed.bits; in_range = h }) speed.in_range)
what_back (Speed128 forward speed) to number =
    ap (λ (r : Result SpeedBits128 PacketFault). r >>= λ bits. Ok (Speed128 forward bits))
    (up_to_ok 127 speed.bits faults.SpeedBits (λ h. record { bits = speed.bits; in_range = h }) speed.in_range)
what_back (Functions functions) to number =
    ap (λ (r : Result GroupBits PacketFault). r >>= λ f. Ok (Functions f)) (functions_back functions)
what_back (BinaryState state on) to number =
    ap (λ (r : Result StateNumber PacketFault). r >>= λ s. Ok (BinaryState s on))
    (up_to_ok 127 state.number faults.StateNumber (λ h. record { number = state.number; in_range = h }) state.in_range)
what_back (CvWrite cv value) to number =
    ap (λ (r : Result CvNumber PacketFault). r >>= λ own. Ok (CvWrite own value)) (cv_back cv.number cv refl)
what_back (CvVerify cv value) to number =
    ap (λ (r : Result CvNumber PacketFault). r >>= λ own. Ok (CvVerify own value)) (cv_back cv.number cv refl)
what_back (CvBitWrite cv place one) to number =
    ap (λ (r : BitResult). r >>= λ bit. Ok (CvBitWrite bit.0 bit.1 one)) (bit_back cv place)
what_back (CvBitVerify cv place one) to number =
    ap (λ (r : BitResult). r >>= λ bit. Ok (CvBitVerify bit.0 bit.1 one)) (bit_back cv place)

is_for_loco : (what : What) (to number : ℕ)
    → packet_of_fields (record (instruction_numbers what) { to = to; address = number })
    ≡ loco_of_fields (record (instruction_numbers what) { to = to; address = number })
is_for_loco Reset to number = refl
is_for_loco (Speed28 forward speed) to number = refl
is_for_loco (Speed128 forward speed) to number = refl
is_for_loco (Functions functions) to number = refl
is_for_loco (BinaryState state on) to number = refl
is_for_loco (CvWrite cv value) to number = refl
is_for_loco (CvVerify cv value) to number = refl
is_for_loco (CvBitWrite cv place one) to number = refl
is_for_loco (CvBitVerify cv place one) to number = refl

loco_back : (to : Address) (what : What) → packet_of_fields (packet_numbers (Loco to what)) ≡ Ok (Loco to what)
loco_back to what =
    is_for_loco what (address_kind to) (address_number to)
    ∙ ap (λ (r : Result Address PacketFault). r >>= λ own.
    what_of_fields (packet_numbers (Loco to what)) >>= λ it. Ok (Loco own it)) (address_back to)
    ∙ ap (λ (r : Result What PacketFault). r >>= λ it. Ok (Loco to it))
    (what_back what (address_kind to) (address_number to))

accessory_back : (board : Board) (output : Output) (on : _)
    → packet_of_fields (packet_numbers (Accessory board output on)) ≡ Ok (Accessory board output on)
accessory_back board output on =
    ap (λ (r : Result Board PacketFault). r >>= λ b. output_of output.number >>= λ o. Ok (Accessory b o on))
    (up_to_ok 511 board.number faults.Board (λ h. record { number = board.number; in_range = h }) board.in_range)
    ∙ ap (λ (r : Result Output PacketFault). r >>= λ o. Ok (Accessory board o on))
    (up_to_ok 7 output.number faults.Output (λ h. record { number = output.number; in_range = h }) output.in_range)

signal_back : (address : SignalAddress) (aspect : ℕ)
    → packet_of_fields (packet_numbers (Signal address aspect)) ≡ Ok (Signal address aspect)
signal_back address aspect =
    ap (λ (r : Result SignalAddress PacketFault). r >>= λ own. Ok (Signal own aspect))
    (up_to_ok 2047 address.number faults.Signal (λ h. record { number = address.number; in_range = h })
    address.in_range)

-- the fields of a packet mean the packet
packet_back : (what : Packet) → (packet_numbers what).kind ≢ 12 → packet_of_fields (packet_numbers what) ≡ Ok what
packet_back Idle k = refl
packet_back (Loco to what) k = loco_back to what
packet_back (Accessory board output on) k = accessory_back board output on
packet_back (Signal address aspect) k = signal_back address aspect
packet_back (Other other) k = absurd (k refl)

-- the packet that fields mean
pub meant : (p : DccPacket) (what : Packet) → p ≡ packet_numbers what → p.kind ≢ 12 → packet_of_fields p ≡ Ok what
meant p what e k =
    ap packet_of_fields e ∙ packet_back what (λ same. k (ap (λ (q : DccPacket). q.kind) e ∙ same))

pub one_meaning : (one other : Packet) → ◌≡◌ {A = Result Packet PacketFault} (Ok one) (Ok other) → one ≡ other
one_meaning one other e = cc

pub no_fault : (fault : PacketFault) (what : Packet) → ◌≡◌ {A = Result Packet PacketFault} (Err fault) (Ok what) → ⊥
no_fault fault what e = cc
