-- A frame is read as the packet that it spells where that may be pending, and so a pending write is read again.
use Rattle.std.proofs.Common.{◌≡◌, ℕ, ◌+◌, ◌-◌, ◌*◌, ◌/◌, ◌%◌, ◌<◌, List, [], ◌∷◌, ◌++◌, Bool, true, false, eqb, ◌&&◌}
use Rattle.std.proofs.Common.{length, drop, codes, bytes_eq, Option, None, Some, Result, Ok, Err, refl, sym, ap}
use Rattle.std.proofs.Common.{◌∙◌, append_assoc, if◌then◌else◌, arith}
use Rattle.std.proofs.Math.Seq.{drop-append_seam}
use Rattle.std.proofs.lemmas.Bool.{and_parts, false_from_ne_true, leb-true}
use Rattle.std.proofs.lemmas.Slice.Eq.{bytes_eq-Decides}
use Rattle.hex.specs.Hex.{encode_lower, lower_digits}
use Rattle.hex.proofs.HexLemmas.{length-encode_with}
use Rattle.dcc_wire.specs.Frames.{IsFrame, xor_of}
use Rattle.dcc_packet.specs.declared.address.Address.{Address}
use Rattle.dcc_packet.specs.declared.address.Address.TheVariants.{Short, Long}
use Rattle.dcc_packet.specs.declared.cv.BitPlace.{BitPlace}
use Rattle.dcc_packet.specs.declared.cv.CvNumber.{CvNumber}
use Rattle.dcc_packet.specs.declared.fault.PacketFault.{PacketFault}
use Rattle.dcc_packet.specs.declared.fault.PacketFault.TheVariants as faults
use Rattle.dcc_packet.specs.declared.instruction.What.{What}
use Rattle.dcc_packet.specs.declared.instruction.What.TheVariants.{CvWrite, CvBitWrite}
use Rattle.dcc_packet.specs.declared.packet.Packet.{Packet}
use Rattle.dcc_packet.specs.declared.packet.Packet.TheVariants.{Loco}
use Rattle.dcc_packet.specs.Rows.{bit, address_bytes, instruction_bytes}
use Rattle.dcc_packet.specs.Spelling.{spelling, ValueFits}
use Rattle.dcc_packet.specs.Values.{cv_of, place_of}
use Rattle.dcc_packet.specs.Fields.{IsToken}
use Rattle.dcc_packet.proofs.FrameSpellings.{spellings_are_frames}
use Rattle.dcc_packet.proofs.OneSpelling.{one_packet}
use Rattle.dcc_packet.proofs.SameAddresses.{one_short, one_long}
use Rattle.dcc_packet.proofs.Tokens.{hex_token, keyword_token}
use Rattle.dcc_packet.proofs.UpTo.{up_to_ok, from_one_to_ok}
use Rattle.dcc_packet.proofs.WordsBack.{hex_back}
use Rattle.dcc_regs.specs.declared.register.Who.TheVariants.{Loco as LocoWho}
use Rattle.dcc_regs.specs.Heard.{hears}
use Rattle.dcc_regs.specs.Inner.HearsByAddress.{is_for}
use Rattle.dcc_regs.proofs.HearsByBytes.{hears_at}
use Rattle.dcc_regs.proofs.WritesInParts.{own_is_cv_write}
use Rattle.dcc_regs.specs.Loco.{writes_byte, is_pending_for}
use Rattle.dcc_regs.specs.Writes.{is_cv_write, is_own_write}
use Rattle.dcc_saved.specs.DecoderLines.{pending_word, pending_text, pending_field, pending_line}
use Rattle.dcc_saved.proofs.LinesBack.{IsLineBack, keyed_back}
use Rattle.dcc_saved.specs.PendingWrite.{cv_named, write_in, with_frame, pending_write}

pub all_three : (a b c : Bool) → (a && b && c) ≡ true → (a ≡ true) × (b ≡ true) × (c ≡ true)
all_three true true true h = (refl, refl, refl)
all_three a b c h = cc

-- the CV, the place and the bit are read from the bytes of a write
cv_back : (kind : ℕ) (cv : CvNumber) (last : List ℕ) → kind % 4 ≡ 0
    → cv_of (cv_named ((kind + (cv.number - 1) / 256) ∷ ((cv.number - 1) % 256) ∷ last)) ≡ Ok cv
cv_back kind cv last is =
    let n : 256 * ((kind + (cv.number - 1) / 256) % 4) + (cv.number - 1) % 256 + 1 ≡ cv.number =
    omega (arith, cv.in_range) in
    rw n (from_one_to_ok 1024 cv.number faults.CvNumber (λ h. record { number = cv.number; in_range = h }) cv.in_range)

place_back : (one : Bool) (place : BitPlace) → place_of ((0xF0 + 8 * bit one + place.place) % 8) ≡ Ok place
place_back one place =
    let n : (0xF0 + 8 * bit one + place.place) % 8 ≡ place.place = omega (arith, place.in_range) in
    rw n (up_to_ok 7 place.place faults.BitPlace (λ h. record { place = place.place; in_range = h }) place.in_range)

bit_back : (one : Bool) (place : BitPlace) → eqb ((0xF0 + 8 * bit one + place.place) / 8 % 2) 1 ≡ one
bit_back true place = grind (arith, place.in_range)
bit_back false place = grind (arith, place.in_range)

write_back : (to : Address) (what : What) (error : List ℕ) → is_cv_write what ≡ true
    → write_in to (instruction_bytes what ++ error) ≡ Ok (Loco to what)
write_back to (CvWrite cv value) error h =
    let kind : eqb ((0xEC + (cv.number - 1) / 256) / 4) 59 ≡ true = grind (arith, cv.in_range) in
    rw (kind, cv_back 0xEC cv (value ∷ error) refl) refl
write_back to (CvBitWrite cv place one) error h =
    let kind : eqb ((0xE8 + (cv.number - 1) / 256) / 4) 59 ≡ false = grind (arith, cv.in_range) in
    let cv_is = cv_back 0xE8 cv ((0xF0 + 8 * bit one + place.place) ∷ error) refl in
    rw (kind, cv_is, place_back one place, bit_back one place) refl
write_back to what error h = cc

value_fits : (what : What) → is_cv_write what ≡ true → writes_byte what ≡ true → ValueFits what
value_fits (CvWrite cv value) h byte = omega (arith, leb-true value 255 byte)
value_fits (CvBitWrite cv place one) h byte = tt
value_fits what h byte = cc

-- an own write is heard by the decoder with that address
own_to : (to : Address) (active : Option Address) (what : What) → is_own_write (Loco to what) ≡ true
    → is_for active to ≡ true → (active ≡ Some to) × (is_cv_write what ≡ true)
own_to (Short to) (Some (Short own)) what h heard =
    (ap Some ((one_short own to).0 heard), own_is_cv_write (Short to) what h)
own_to (Long to) (Some (Long own)) what h heard =
    (ap Some ((one_long own to).0 heard), own_is_cv_write (Long to) what h)
own_to to active what h heard = cc

-- what is known of a packet that may be pending
pub record IsWrite (active : Option Address) (p : Packet) : Type 0 where
  pub frame : IsFrame (spelling p)
  pub read : pending_write active (spelling p) ≡ Ok p

read_back : (to : Address) (what : What) → is_cv_write what ≡ true
    → is_pending_for (Some to) (Some (Loco to what)) ≡ true
    → pending_write (Some to) (spelling (Loco to what)) ≡ Ok (Loco to what)
unfolding pending_write
read_back to what write h =
    let error : List ℕ = xor_of (address_bytes to ++ instruction_bytes what) ∷ [] in
    let bytes : drop (length (address_bytes to)) (spelling (Loco to what)) ≡ instruction_bytes what ++ error =
    ap (drop (length (address_bytes to))) (append_assoc (address_bytes to) (instruction_bytes what) error)
    ∙ drop-append_seam (address_bytes to) (instruction_bytes what ++ error) in
    ap (with_frame (Some to) (spelling (Loco to what))) (ap (write_in to) bytes ∙ write_back to what error write)
    ∙ rw ((bytes_eq-Decides (spelling (Loco to what)) (spelling (Loco to what))).1 refl, h) refl

pub IsWrite-pending : (active : Option Address) (p : Packet) → is_pending_for active (Some p) ≡ true → IsWrite active p
IsWrite-pending active (Loco to what) h =
    let parts = all_three (is_own_write (Loco to what)) (writes_byte what) (hears (LocoWho active) (Loco to what)) h in
    let own = own_to to active what parts.0 (sym (hears_at active (Loco to what)) ∙ parts.2) in
    record {
      frame = spellings_are_frames (Loco to what) (value_fits what own.1 parts.1);
      read = rw own.0 (read_back to what own.1 (rw own.0 at h));
    }
IsWrite-pending active p h = cc

-- another packet has another frame
other_frame : (active : Option Address) (p : Packet) (read : Result Packet PacketFault)
    → is_pending_for active (Some p) ≡ false → with_frame active (spelling p) read ≡ Err faults.State
other_frame active p (Err fault) other = refl
other_frame active p (Ok q) other =
    let none = false_from_ne_true (bytes_eq (spelling q) (spelling p) && is_pending_for active (Some q))
    (λ h. let parts = and_parts (bytes_eq (spelling q) (spelling p)) (is_pending_for active (Some q)) h in
    let one = one_packet q p ((bytes_eq-Decides (spelling q) (spelling p)).0 parts.0) in
    let own = rw one at parts.1 in cc) in
    rw none refl

-- a frame is read as the packet that it spells, where that may be pending
pub pending_write_is : (active : Option Address) (p : Packet)
    → pending_write active (spelling p) ≡ (if is_pending_for active (Some p) then Ok p else Err faults.State)
unfolding pending_write
pending_write_is active p = go active (is_pending_for active (Some p)) refl
  where
    go : (own : Option Address) (b : Bool) → is_pending_for own (Some p) ≡ b
        → pending_write own (spelling p) ≡ (if b then Ok p else Err faults.State)
    go own true is = (IsWrite-pending own p is).read
    go None false is = refl
    go (Some to) false is = other_frame (Some to) p _ is

not_none : (word : List ℕ) → 4 < length word → bytes_eq word (codes "none") ≡ false
not_none word long =
    false_from_ne_true (bytes_eq word (codes "none"))
    (λ h. omega (arith, long, ap length ((bytes_eq-Decides word (codes "none")).0 h)))

pending_word_back : (active : Option Address) (pending : Option Packet) → is_pending_for active pending ≡ true
    → (pending_word active (pending_text pending) ≡ Ok pending) × IsToken (pending_text pending)
pending_word_back active None h = (refl, keyword_token (codes "none") refl)
pending_word_back active (Some p) h =
    let write = IsWrite-pending active p h in
    let word : List ℕ = encode_lower (spelling p) in
    let long : 4 < length word = omega (arith, length-encode_with lower_digits (spelling p), write.frame.least) in (
      rw (not_none word long, hex_back (spelling p) write.frame.each write.frame, write.read) refl,
      hex_token (spelling p) (omega (arith, write.frame.least)) (omega (arith, write.frame.most)),
    )

-- the line of a pending write
pub pending_line_back : (active : Option Address) → IsLineBack (pending_line active)
pending_line_back active =
    keyed_back (codes "pending") (pending_field active) (keyword_token (codes "pending") refl)
    (record {
      back = λ pending rest h. rw (pending_word_back active pending h).0 refl;
      tokens = λ pending h. ((pending_word_back active pending h).1, tt);
    })
    (λ pending h. omega arith)
