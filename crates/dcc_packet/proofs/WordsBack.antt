-- A written word is read again.
use Rattle.std.proofs.Common.{◌≡◌, ℕ, ◌<◌, Bool, true, false, List, length, Ok, refl, arith, nat_le, nat_lt}
use Rattle.std.specs.Fmt.{decimal}
use Rattle.std.proofs.lemmas.Bool.{le-leb}
use Rattle.std.proofs.lemmas.Fmt.{decimal_is_IsNumeral, decimal_nonempty}
use Rattle.std.proofs.lemmas.Bool.{le-ltb}
use Rattle.hex.specs.Hex.{encode_lower, IsBytes}
use Rattle.hex.proofs.HexLemmas.{decode_of-encode_lower}
use Rattle.dcc_wire.specs.Frames.{IsFrame}
use Rattle.dcc_wire.specs.FrameOf.{frame_of}
use Rattle.dcc_packet.specs.declared.address.Address.{Address}
use Rattle.dcc_packet.specs.declared.address.Address.TheVariants.{Broadcast, Short, Long}
use Rattle.dcc_packet.specs.declared.functions.Group.{Group}
use Rattle.dcc_packet.specs.declared.functions.Group.TheVariants.{F0}
use Rattle.dcc_packet.specs.Written.{address_word, direction_word, group_word, state_word, switch_word}
use Rattle.dcc_packet.specs.LineWords.{number, small_number, address, direction, group, bit_state, switch}
use Rattle.dcc_packet.specs.LineWords.{frame_or_fault, hex_frame}
use Rattle.dcc_packet.proofs.UpTo.{up_to_ok, from_one_to_ok}
use Rattle.dcc_packet.proofs.Decimal.{short}
use Rattle.dcc_packet.proofs.WrittenWords.{test_from_digits}

pub number-decimal : (n : ℕ) → n < 65536 → number (decimal n) ≡ Ok n
number-decimal n h =
    let numeral = decimal_is_IsNumeral n (omega arith) in
    let low : nat_le 1 (length (decimal n)) ≡ true = le-leb 1 (length (decimal n)) (decimal_nonempty n (omega arith)) in
    let high : nat_le (length (decimal n)) 5 ≡ true = le-leb (length (decimal n)) 5 (short n h) in
    let all = test_from_digits (decimal n) numeral.0.1 in
    let top : nat_le n 65535 ≡ true = le-leb n 65535 (omega arith) in
    rw (low, high, all, numeral.1, top) refl

pub small_number-decimal : (n : ℕ) → n < 256 → small_number (decimal n) ≡ Ok n
small_number-decimal n h =
    let top : nat_le n 255 ≡ true = le-leb n 255 (omega arith) in
    rw (number-decimal n (omega arith), top) refl

pub address_back : (to : Address) → address (address_word to) ≡ Ok to
address_back Broadcast = refl
address_back (Short s) = rw (small_number-decimal s.number (omega arith)) (from_one_to_ok _ _ _ _ s.in_range)
address_back (Long s) = rw (number-decimal s.number (omega arith)) (up_to_ok _ _ _ _ s.in_range)

pub direction_back : (forward : Bool) → direction (direction_word forward) ≡ Ok forward
direction_back true = refl
direction_back false = refl

pub group_back : (g : Group) → group (group_word g) ≡ Ok g
group_back F0 = refl
group_back group = refl

pub state_back : (one : Bool) → bit_state (state_word one) ≡ Ok one
state_back true = refl
state_back false = refl

pub switch_back : (on : Bool) → switch (switch_word on) ≡ Ok on
switch_back true = refl
switch_back false = refl

pub framed_is : (f : List ℕ) → IsFrame f → frame_or_fault (frame_of f) ≡ Ok f
framed_is f h =
    let low : nat_lt (length f) 3 ≡ false = le-ltb (length f) 3 h.least in
    let high : nat_lt 6 (length f) ≡ false = le-ltb 6 (length f) h.most in
    rw (low, high, h.error_byte) refl

pub hex_back : (f : List ℕ) → IsBytes f → IsFrame f → hex_frame (encode_lower f) ≡ Ok f
hex_back f bytes h = rw (decode_of-encode_lower f bytes) (framed_is f h)
