-- The packet that is kept is the one that is spelled.
use Rattle.std.proofs.Common.{◌≡◌, ◌∙◌, refl, sym, ap, subst, inl, inr, Bool, true, false, Some, None, List, ℕ, []}
use Rattle.std.proofs.Common.{◌∷◌, ◌++◌, ◌+◌, ◌-◌, ◌*◌, ◌/◌, ◌%◌, length, length-append, take, get_or, arith}
use Rattle.std.proofs.Math.Seq.{take-append_seam}
use Rattle.std.specs.Prelude.{◌≢◌, ◌⊎◌, ◌<◌, ◌≤◌, not, nat_eq}
use Rattle.std.specs.Result.{result_ok}
use Rattle.std.proofs.lemmas.Bool.Decides.{nat_tests}
use Rattle.dcc_packet.specs.declared.packet.Packet.{Packet}
use Rattle.dcc_packet.specs.declared.packet.Packet.TheVariants.{Idle, Loco, Accessory, Signal, Other}
use Rattle.dcc_packet.specs.Spelling.{spelling}
use Rattle.dcc_packet.specs.Rows.{address_bytes, instruction_bytes}
use Rattle.dcc_packet.specs.declared.address.Address.{Address}
use Rattle.dcc_packet.specs.declared.address.Address.TheVariants.{Broadcast, Short, Long}
use Rattle.dcc_packet.specs.declared.address.LongAddress.{LongAddress}
use Rattle.dcc_c.specs.declared.frame.DccFrame.{DccFrame}
use Rattle.dcc_packet.specs.declared.instruction.What.{What}
use Rattle.dcc_wire.specs.Frames.{IsFrame, with_error_byte}
use Rattle.dcc_packet.proofs.OneSpelling.{one_packet}
use Rattle.dcc_packet.proofs.FrameParts.{frame_parts}
use Rattle.dcc_packet.specs.declared.packet.OtherFrame.{OtherFrame}
use Rattle.dcc_regs.specs.declared.register.SpeedMode.{SpeedMode}
use Rattle.dcc_regs.specs.declared.register.Register.{Register}
use Rattle.dcc_regs.specs.Heard.{address_of, frame_address}
use Rattle.dcc_regs.specs.Sets.{sets}
use Rattle.dcc_regs.proofs.LawLemmas.{one_address}
use Rattle.dcc_station.specs.Sending.{Displaces}
use Rattle.dcc_station.proofs.LeftByOne.{own_address}
use Rattle.dcc_c.specs.declared.kept_packet.KeptPacket.TheInside.{Inside}
use Rattle.dcc_c.specs.Frames.{bytes_of, zeros_behind}
use Rattle.dcc_c.specs.KeptPackets.{kept_bytes, one_kept, is_for_another}
use Rattle.dcc_c.specs.KeptPacketLaw.{packet_of, IsKeptPacket}
use Rattle.dcc_c.proofs.LocoLemmas.{short_back, long_back}

pub is_packet : (k : Inside) (packet : Packet) → bytes_of k.frame ≡ kept_bytes packet → packet_of k ≡ packet
is_packet k packet e = one_kept k.says.0 packet (k.says.1 ∙ e)

pub spelled_is_kept : (packet other : Packet) (bytes : List ℕ) → kept_bytes packet ≡ bytes → spelling other ≡ bytes
    → bytes ≢ [] → other ≡ packet
spelled_is_kept Idle other bytes kept spelled some = absurd (some (sym kept))
spelled_is_kept packet other bytes kept spelled some = one_packet other packet (spelled ∙ sym kept)

-- an instruction to locomotives that stands before the error byte is the packet that is kept
pub loco_is_kept : (k : Inside) (to : Address) (what : What) → IsKeptPacket k → bytes_of k.frame ≢ []
    → address_bytes to ++ instruction_bytes what ≡ take (length (bytes_of k.frame) - 1) (bytes_of k.frame)
    → Loco to what ≡ packet_of k
loco_is_kept k to what good some is = spelled_is_kept k.says.0 (Loco to what) (bytes_of k.frame) k.says.1 spelled some
  where
    framed : IsFrame (bytes_of k.frame)
    framed = elim good.0 [ inl none ↦ absurd (some none) | inr valid ↦ valid ]

    spelled : spelling (Loco to what) ≡ bytes_of k.frame
    spelled = ap with_error_byte is ∙ sym (frame_parts (bytes_of k.frame) framed)

-- what stands before the last byte
pub body_of : (bytes : List ℕ) (last : ℕ) (body : List ℕ) → bytes ≡ body ++ last ∷ [] → body
    ≡ take (length bytes - 1) bytes
body_of bytes last body e =
    let long : length bytes ≡ length body + 1 = ap length e ∙ length-append body (last ∷ []) in
    let all : length body ≡ length bytes - 1 = omega arith in
    sym (take-append_seam body (last ∷ [])) ∙ ap (take (length body)) (sym e) ∙ ap (λ (n : ℕ). take n bytes) all

pub some_of : (bytes : List ℕ) (last : ℕ) (body : List ℕ) → bytes ≡ body ++ last ∷ [] → bytes ≢ []
some_of bytes last [] e none = let k : [] ≡ last ∷ [] = sym none ∙ e in cc
some_of bytes last (x ∷ body) e none = let k : [] ≡ x ∷ (body ++ last ∷ []) = sym none ∙ e in cc

-- a frame begins with the address of its packet
pub address_spelled : (packet : Packet) → frame_address (spelling packet) ≡ address_of packet
address_spelled Idle = refl
address_spelled (Loco Broadcast what) = refl
address_spelled (Loco (Short own) what) =
    let back = ap result_ok (short_back own.number own refl) in
    let range = own.in_range in
    grind (arith, nat_tests, back)
address_spelled (Loco (Long own) what) =
    let range = own.in_range in
    let same : (192 + own.number / 256 - 192) * 256 + own.number % 256 ≡ own.number = omega arith in
    let back = ap result_ok (long_back ((192 + own.number / 256 - 192) * 256 + own.number % 256) own same) in
    grind (arith, nat_tests, back)
address_spelled (Accessory board output on) = grind (arith, nat_tests)
address_spelled (Signal address aspect) = grind (arith, nat_tests)
address_spelled (Other other) = refl

pub kept_address : (packet : Packet) (bytes : List ℕ) → kept_bytes packet ≡ bytes → bytes ≢ []
    → frame_address bytes ≡ address_of packet
kept_address Idle bytes kept some = absurd (some (sym kept))
kept_address packet bytes kept some = ap frame_address (sym kept) ∙ address_spelled packet

-- the addresses of a command and of an entry for another locomotive
apart : (to own : Address) (entry : Packet) → address_of entry ≡ Some own
    → is_for_another to entry ≡ true → (to ≢ Broadcast) × ((own ≢ Broadcast) × (own ≢ to))
apart Broadcast own entry is h = cc
apart to own entry is h =
    let k = rw is at h in
    let same = (own_address own).1 in
    (λ e. cc, (λ e. let f = rw e at k in cc, λ e. let f = rw (← e) at k in let g = rw same at f in grind arith))

-- a frame in no row sets no register
sets_nothing : (mode : SpeedMode) (other : OtherFrame) (r : Register) → sets mode (Other other) r ≡ None
sets_nothing mode other r = grind arith

-- no packet to one locomotive displaces a packet to another
pub stays_at_another : (to : Address) (what : What) (entry : Packet) → is_for_another to entry ≡ true
    → Displaces (Loco to what) entry → ⊥
stays_at_another to what (Loco own entry) h gone =
    let a = apart to own (Loco own entry) refl h in
    elim gone [
      | inl same ↦ a.1.1 (cc)
      | inr (inl clash) ↦ a.1.1 (one_address clash.who own to entry what a.1.0 a.0 clash.second_heard clash.first_heard)
      | inr (inr both) ↦ a.1.1 (let e : Some own ≡ Some to = both.1 in cc)
    ]
stays_at_another to what (Other other) h gone = elim gone [
  | inl same ↦ cc
  | inr (inl clash) ↦ (let e = sym (sets_nothing clash.mode other clash.register) ∙ clash.second_sets in cc)
  | inr (inr both) ↦ (apart to to (Other other) both.1 h).1.1 refl
]
stays_at_another to what entry h gone = grind arith

-- the bytes of a frame whose first byte is that of a long address
another_in : (bytes : List ℕ) (p : Packet) (own : LongAddress) → kept_bytes p ≡ bytes → 2 ≤ length bytes
    → get_or (zeros_behind 6 bytes) 0 0 ≡ 192 + own.number / 256 → get_or (zeros_behind 6 bytes) 1 0 < 256
    → not (nat_eq (get_or (zeros_behind 6 bytes) 1 0) (own.number % 256)) ≡ is_for_another (Long own) p
another_in (a ∷ b ∷ more) p own kept two first fits =
    let range = own.in_range in
    let found : LongAddress = record { number = (a - 192) * 256 + b; in_range = omega (arith, first, fits, range) } in
    let back = ap result_ok (long_back ((a - 192) * 256 + b) found refl) in
    let read : frame_address (a ∷ b ∷ more) ≡ Some (Long found) = grind (arith, nat_tests, back) in
    let is : address_of p ≡ Some (Long found) = sym (kept_address p (a ∷ b ∷ more) kept (λ e. cc)) ∙ read in
    rw is (by_test (nat_eq b (own.number % 256)) refl)
  where
    by_test : (t : Bool) → nat_eq b (own.number % 256) ≡ t
        → not (nat_eq b (own.number % 256)) ≡ not (nat_eq ((a - 192) * 256 + b) own.number)
    by_test true e = grind (arith, nat_tests)
    by_test false e = grind (arith, nat_tests)
another_in bytes p own kept two first fits = absurd (omega arith)

-- a frame whose first byte is that of a long address
pub another_long : (k : Inside) (own : LongAddress) → IsKeptPacket k
    → get_or k.frame.bytes 0 0 ≡ 192 + own.number / 256 → get_or k.frame.bytes 1 0 < 256
    → not (nat_eq (get_or k.frame.bytes 1 0) (own.number % 256)) ≡ is_for_another (Long own) (packet_of k)
another_long k own good =
    let bytes = bytes_of k.frame in
    subst (λ (l : List ℕ). get_or l 0 0 ≡ 192 + own.number / 256 → get_or l 1 0 < 256
    → not (nat_eq (get_or l 1 0) (own.number % 256)) ≡ is_for_another (Long own) (packet_of k))
    (sym (ap (λ (f : DccFrame). f.bytes) good.1))
    (λ first fits. another_in bytes k.says.0 own k.says.1 (long bytes good.0 first) first fits)
  where
    long : (bytes : List ℕ) → (bytes ≡ []) ⊎ IsFrame bytes → get_or (zeros_behind 6 bytes) 0 0 ≡ 192 + own.number / 256
        → 2 ≤ length bytes
    long bytes (inl none) first = let k = rw none at first in absurd (omega (arith, k))
    long bytes (inr valid) first = let least = valid.least in omega arith
