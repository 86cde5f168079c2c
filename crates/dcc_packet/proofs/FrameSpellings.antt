-- The spelling of a packet is a frame.
use Rattle.std.proofs.Common.{ℕ, ◌+◌, ◌*◌, ◌<◌, ◌≤◌, Bool, true, false, List, [], ◌∷◌, ◌++◌, length, bit_xor, arith}
use Rattle.std.proofs.Common.{length-append}
use Rattle.std.proofs.lemmas.Nat.{xor_of_8}
use Rattle.std.specs.List.{fold}
use Rattle.dcc_wire.specs.Frames.{AllBytes, IsFrame, xor_of, with_error_byte}
use Rattle.dcc_wire.proofs.ByteLemmas.{AllBytes-index}
use Rattle.dcc_wire.proofs.ErrorByte.{xor_of-with_error_byte}
use Rattle.dcc_packet.specs.declared.address.Address.{Address}
use Rattle.dcc_packet.specs.declared.address.Address.TheVariants.{Broadcast, Short, Long}
use Rattle.dcc_packet.specs.declared.accessory.Board.{Board}
use Rattle.dcc_packet.specs.declared.accessory.Output.{Output}
use Rattle.dcc_packet.specs.declared.accessory.SignalAddress.{SignalAddress}
use Rattle.dcc_packet.specs.declared.cv.CvNumber.{CvNumber}
use Rattle.dcc_packet.specs.declared.functions.Group.{Group}
use Rattle.dcc_packet.specs.declared.functions.Group.TheVariants.{F0, F5, F9}
use Rattle.dcc_packet.specs.declared.instruction.What.{What}
use Rattle.dcc_packet.specs.declared.instruction.What.TheVariants.{Reset, Speed28, Speed128, Functions, BinaryState}
use Rattle.dcc_packet.specs.declared.instruction.What.TheVariants.{CvWrite, CvVerify, CvBitWrite, CvBitVerify}
use Rattle.dcc_packet.specs.declared.packet.Packet.TheVariants.{Idle, Loco, Accessory, Signal, Other}
use Rattle.dcc_packet.specs.Group.{group_max}
use Rattle.dcc_packet.specs.Rows.{bit, address_bytes, function_bytes, cv_bytes, instruction_bytes, accessory_bytes}
use Rattle.dcc_packet.specs.Rows.{signal_bytes}
use Rattle.dcc_packet.specs.Spelling.{ValueFits}
use Rattle.dcc_packet.specs.SpellingLaws.{SpellingsAreFrames}

xor_fits : (bytes : List ℕ) (start : ℕ) → AllBytes bytes → start < 256 → fold bit_xor start bytes < 256
unfolding AllBytes
xor_fits [] start all h = h
xor_fits (byte ∷ bytes) start all h = xor_fits bytes (bit_xor start byte) all.1 (xor_of_8 start byte h all.0)

AllBytes-append : (front back : List ℕ) → AllBytes front → AllBytes back → AllBytes (front ++ back)
unfolding AllBytes
AllBytes-append [] back all more = more
AllBytes-append (byte ∷ bytes) back all more = (all.0, AllBytes-append bytes back all.1 more)

-- the bytes of a row: 2 to 5
record IsRowOfBytes (bytes : List ℕ) : Type 0 where
  least : 2 ≤ length bytes
  most : length bytes ≤ 5
  all : AllBytes bytes

one_byte : (byte : ℕ) → byte < 256 → AllBytes (byte ∷ [])
unfolding AllBytes
one_byte byte h = (h, tt)

framed : (bytes : List ℕ) → IsRowOfBytes bytes → IsFrame (with_error_byte bytes)
framed bytes row =
    let error : xor_of bytes < 256 = xor_fits bytes 0 row.all (omega arith) in
    let count = length-append bytes (xor_of bytes ∷ []) in
    record {
      least = omega (arith, count, row.least);
      most = omega (arith, count, row.most);
      error_byte = xor_of-with_error_byte bytes;
      each = AllBytes-index (with_error_byte bytes)
          (AllBytes-append bytes (xor_of bytes ∷ []) row.all (one_byte (xor_of bytes) error));
    }

bit_small : (b : Bool) → bit b ≤ 1
bit_small true = omega arith
bit_small false = omega arith

-- an address has 1 or 2 bytes
record IsAddress (bytes : List ℕ) : Type 0 where
  least : 1 ≤ length bytes
  most : length bytes ≤ 2
  all : AllBytes bytes

address_is : (to : Address) → IsAddress (address_bytes to)
unfolding AllBytes
address_is Broadcast = record { least = omega arith; most = omega arith; all = (omega arith, tt) }
address_is (Short address) = record { least = omega arith; most = omega arith; all = (omega arith, tt) }
address_is (Long address) = record { least = omega arith; most = omega arith; all = (omega arith, (omega arith, tt)) }

-- an instruction has 1 to 3
record IsInstruction (bytes : List ℕ) : Type 0 where
  least : 1 ≤ length bytes
  most : length bytes ≤ 3
  all : AllBytes bytes

functions_are : (group : Group) (bits : ℕ) → bits ≤ group_max group → IsInstruction (function_bytes group bits)
unfolding AllBytes
functions_are F0 bits h = record { least = omega arith; most = omega arith; all = (omega arith, tt) }
functions_are F5 bits h = record { least = omega arith; most = omega arith; all = (omega arith, tt) }
functions_are F9 bits h = record { least = omega arith; most = omega arith; all = (omega arith, tt) }
functions_are group bits h = record { least = omega arith; most = omega arith; all = (omega arith, (omega arith, tt)) }

cv_is : (kind : ℕ) (cv : CvNumber) (last : ℕ) → kind ≤ 0xEC → last < 256 → IsInstruction (cv_bytes kind cv.number last)
unfolding AllBytes
cv_is kind cv last low small =
    record { least = omega arith; most = omega arith; all = (omega arith, (omega arith, (small, tt))) }

instruction_is : (what : What) → ValueFits what → IsInstruction (instruction_bytes what)
unfolding AllBytes
instruction_is Reset fits = record { least = omega arith; most = omega arith; all = (omega arith, tt) }
instruction_is (Speed28 forward speed) fits =
    record { least = omega arith; most = omega arith; all = (omega (arith, bit_small forward), tt) }
instruction_is (Speed128 forward speed) fits =
    record { least = omega arith; most = omega arith; all = (omega arith, (omega (arith, bit_small forward), tt)) }
instruction_is (Functions functions) fits = functions_are functions.group functions.bits functions.in_range
instruction_is (BinaryState state on) fits =
    record { least = omega arith; most = omega arith; all = (omega arith, (omega (arith, bit_small on), tt)) }
instruction_is (CvWrite cv value) fits = cv_is 0xEC cv value (omega arith) fits
instruction_is (CvVerify cv value) fits = cv_is 0xE4 cv value (omega arith) fits
instruction_is (CvBitWrite cv place one) fits =
    cv_is 0xE8 cv (0xF0 + 8 * bit one + place.place) (omega arith) (omega (arith, bit_small one))
instruction_is (CvBitVerify cv place one) fits =
    cv_is 0xE8 cv (0xE0 + 8 * bit one + place.place) (omega arith) (omega (arith, bit_small one))

loco_is : (to what : List ℕ) → IsAddress to → IsInstruction what → IsRowOfBytes (to ++ what)
loco_is to what first second = let count = length-append to what in record {
  least = omega (arith, count, first.least, second.least);
  most = omega (arith, count, first.most, second.most);
  all = AllBytes-append to what first.all second.all;
}

accessory_is : (board : Board) (output : Output) (on : Bool) → IsRowOfBytes (accessory_bytes board output on)
unfolding AllBytes
accessory_is board output on =
    record { least = omega arith; most = omega arith; all = (omega arith, (omega (arith, bit_small on), tt)) }

signal_is : (address : SignalAddress) (aspect : ℕ) → aspect < 256 → IsRowOfBytes (signal_bytes address aspect)
unfolding AllBytes
signal_is address aspect small =
    record { least = omega arith; most = omega arith; all = (omega arith, (omega arith, (small, tt))) }

idle_is : IsRowOfBytes (0xFF ∷ 0 ∷ [])
unfolding AllBytes
idle_is = record { least = omega arith; most = omega arith; all = (omega arith, (omega arith, tt)) }

pub spellings_are_frames : SpellingsAreFrames
spellings_are_frames Idle fits = framed _ idle_is
spellings_are_frames (Loco to what) fits = framed _ (loco_is _ _ (address_is to) (instruction_is what fits))
spellings_are_frames (Accessory board output on) fits = framed _ (accessory_is board output on)
spellings_are_frames (Signal address aspect) fits = framed _ (signal_is address aspect fits)
spellings_are_frames (Other other) fits = other.valid
