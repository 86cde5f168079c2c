-- Each frame is the frame of a packet.
use Rattle.std.proofs.Common.{◌≡◌, ℕ, zero, suc, ◌+◌, ◌-◌, ◌*◌, ◌/◌, ◌%◌, ◌<◌, ◌≤◌, ◌⊎◌, inl, inr}
use Rattle.std.proofs.Common.{Bool, true, false, List, []}
use Rattle.std.proofs.Common.{◌∷◌, ◌++◌, length, take, refl, sym, ap, ◌∙◌, arith}
use Rattle.std.proofs.lemmas.Bool.{cases_lt}
use Rattle.dcc_wire.specs.Frames.{AllBytes, IsFrame, with_error_byte}
use Rattle.dcc_packet.specs.declared.address.Address.{Address}
use Rattle.dcc_packet.specs.declared.address.Address.TheVariants.{Broadcast, Short, Long}
use Rattle.dcc_packet.specs.declared.functions.Group.{Group}
use Rattle.dcc_packet.specs.declared.functions.Group.TheVariants.{F0, F5, F9, F13, F21, F29, F37, F45, F53, F61}
use Rattle.dcc_packet.specs.declared.instruction.What.{What}
use Rattle.dcc_packet.specs.declared.instruction.What.TheVariants.{Reset, Speed28, Speed128, Functions, BinaryState}
use Rattle.dcc_packet.specs.declared.instruction.What.TheVariants.{CvWrite, CvVerify, CvBitWrite, CvBitVerify}
use Rattle.dcc_packet.specs.declared.packet.Packet.{Packet}
use Rattle.dcc_packet.specs.declared.packet.Packet.TheVariants.{Idle, Loco, Accessory, Signal, Other}
use Rattle.dcc_packet.specs.Group.{group_max}
use Rattle.dcc_packet.specs.Rows.{bit, address_bytes, function_bytes, cv_bytes, instruction_bytes}
use Rattle.dcc_packet.specs.Rows.{IsPacketRow, HasRow}
use Rattle.dcc_packet.specs.Spelling.{spelling}
use Rattle.dcc_wire.proofs.ByteLemmas.{AllBytes-of}
use Rattle.dcc_packet.proofs.Same.{bit_below}
use Rattle.dcc_packet.proofs.FrameParts.{frame_parts, in_no_row}

-- the first byte of the bytes of an instruction, and its last byte if there are three
abbrev CanInstruct : List ℕ → Type 0
CanInstruct [] = ⊥
CanInstruct (a ∷ []) = (a ≡ 0) ⊎ ((64 ≤ a) × (a < 192))
CanInstruct (a ∷ b ∷ []) = (a ≡ 63) ⊎ ((216 ≤ a) × (a < 224))
CanInstruct (a ∷ b ∷ c ∷ []) = (228 ≤ a) × ((a < 240) × (((a < 232) ⊎ (236 ≤ a)) ⊎ (224 ≤ c)))
CanInstruct bytes = ⊥

group_can : (group : Group) (bits : ℕ) → bits ≤ group_max group → CanInstruct (function_bytes group bits)
group_can F0 bits h = inr (omega arith, omega arith)
group_can F5 bits h = inr (omega arith, omega arith)
group_can F9 bits h = inr (omega arith, omega arith)
group_can group bits h = inr (omega arith, omega arith)

can : (what : What) → CanInstruct (instruction_bytes what)
can Reset = inl refl
can (Speed28 forward speed) = inr (omega arith, omega (arith, bit_below forward))
can (Speed128 forward speed) = inl refl
can (Functions functions) = group_can functions.group functions.bits functions.in_range
can (BinaryState state on) = inr (omega arith, omega arith)
can (CvWrite cv value) = (omega arith, (omega arith, inl (inr (omega arith))))
can (CvVerify cv value) = (omega arith, (omega arith, inl (inl (omega arith))))
can (CvBitWrite cv place one) = (omega arith, (omega arith, inr (omega arith)))
can (CvBitVerify cv place one) = (omega arith, (omega arith, inr (omega arith)))

a_bit : (n : ℕ) → n < 2 → (b : Bool) × (bit b ≡ n)
a_bit zero h = (false, refl)
a_bit (suc n) h = (true, omega arith)

abbrev Instructs : List ℕ → Type 0
Instructs bytes = (what : What) × (instruction_bytes what ≡ bytes)

one : (a : ℕ) → (a ≡ 0) ⊎ ((64 ≤ a) × (a < 192)) → Instructs (a ∷ [])
one a (inl e) = (Reset, rw e refl)
one a (inr (low, high)) = elim (cases_lt a 128) [
  | inl speed ↦
      let f = a_bit ((a / 32) % 2) (omega arith) in (
        Speed28 f.0 (record { bits = 2 * (a % 16) + (a / 16) % 2; in_range = omega arith }),
        ap (λ (n : ℕ). n ∷ []) (omega (arith, f.1)),
      )
  | inr more ↦ elim (cases_lt a 160) [
    | inl f0 ↦
        let same : 128 + (a - 128) ≡ a = omega arith in
        (Functions (record { group = F0; bits = a - 128; in_range = omega arith }), rw same refl)
    | inr more ↦ elim (cases_lt a 176) [
      | inl f9 ↦ (
        Functions (record { group = F9; bits = a - 160; in_range = omega arith }),
        ap (λ (n : ℕ). n ∷ []) (omega arith),
      )
      | inr f5 ↦ (
        Functions (record { group = F5; bits = a - 176; in_range = omega arith }),
        ap (λ (n : ℕ). n ∷ []) (omega arith),
      )
    ]
  ]
]

switches : (group : Group) (bits : ℕ) → bits ≤ group_max group → Instructs (function_bytes group bits)
switches group bits h = (Functions (record { group = group; bits = bits; in_range = h }), refl)

group_of : (a b : ℕ) → b < 256 → (216 ≤ a) → (a < 224) → Instructs (a ∷ b ∷ [])
group_of a b small low high = by (a - 216) (omega arith) (omega arith)
  where
    by : (n : ℕ) → a ≡ 216 + n → n < 8 → Instructs (a ∷ b ∷ [])
    by zero e h = rw e (switches F29 b (omega arith))
    by (suc zero) e h = rw e (switches F37 b (omega arith))
    by (suc (suc zero)) e h = rw e (switches F45 b (omega arith))
    by (suc (suc (suc zero))) e h = rw e (switches F53 b (omega arith))
    by (suc (suc (suc (suc zero)))) e h = rw e (switches F61 b (omega arith))
    by (suc (suc (suc (suc (suc zero))))) e h =
        let on = a_bit (b / 128) (omega arith) in
        let same : 128 * bit on.0 + b % 128 ≡ b = omega (arith, on.1) in
        (BinaryState (record { number = b % 128; in_range = omega arith }) on.0, rw (same, e) refl)
    by (suc (suc (suc (suc (suc (suc zero)))))) e h = rw e (switches F13 b (omega arith))
    by (suc (suc (suc (suc (suc (suc (suc zero))))))) e h = rw e (switches F21 b (omega arith))
    by n e h = absurd (omega arith)

two : (a b : ℕ) → b < 256 → (a ≡ 63) ⊎ ((216 ≤ a) × (a < 224)) → Instructs (a ∷ b ∷ [])
two a b small (inl e) =
    let forward = a_bit (b / 128) (omega arith) in
    let same : 128 * bit forward.0 + b % 128 ≡ b = omega (arith, forward.1) in
    (Speed128 forward.0 (record { bits = b % 128; in_range = omega arith }), rw (same, e) refl)
two a b small (inr (low, high)) = group_of a b small low high

three_of : (kind a b c n : ℕ) → n ≡ 256 * (a - kind) + b + 1 → kind ≤ a → b < 256 → cv_bytes kind n c ≡ a ∷ b ∷ c ∷ []
three_of kind a b c n e low small =
    let high : kind + (n - 1) / 256 ≡ a = omega arith in
    let rest : (n - 1) % 256 ≡ b = omega arith in
    rw (high, rest) refl

three : (a b c : ℕ) → b < 256 → c < 256 → 228 ≤ a → a < 240 → ((a < 232) ⊎ (236 ≤ a)) ⊎ (224 ≤ c)
    → Instructs (a ∷ b ∷ c ∷ [])
three a b c small last low high which = elim (cases_lt a 232) [
  | inl verify ↦ (
    CvVerify (record { number = 256 * (a - 228) + b + 1; in_range = (omega arith, omega arith) }) c,
    three_of 228 a b c (256 * (a - 228) + b + 1) refl low small,
  )
  | inr more ↦ elim (cases_lt a 236) [
    | inl bits ↦
        let some : 224 ≤ c = elim which [
          | inl other ↦ elim other [ inl x ↦ absurd (omega arith) | inr x ↦ absurd (omega arith) ]
          | inr x ↦ x
        ] in
        let one_bit = a_bit ((c / 8) % 2) (omega arith) in
        elim (cases_lt c 240) [
          | inl check ↦
              let same : 224 + 8 * bit one_bit.0 + c % 8 ≡ c = omega (arith, one_bit.1) in (
                CvBitVerify (record { number = 256 * (a - 232) + b + 1; in_range = (omega arith, omega arith) })
                    (record { place = c % 8; in_range = omega arith }) one_bit.0,
                rw same (three_of 232 a b c (256 * (a - 232) + b + 1) refl more small),
              )
          | inr write ↦
              let same : 240 + 8 * bit one_bit.0 + c % 8 ≡ c = omega (arith, one_bit.1) in (
                CvBitWrite (record { number = 256 * (a - 232) + b + 1; in_range = (omega arith, omega arith) })
                    (record { place = c % 8; in_range = omega arith }) one_bit.0,
                rw same (three_of 232 a b c (256 * (a - 232) + b + 1) refl more small),
              )
        ]
    | inr write ↦ (
      CvWrite (record { number = 256 * (a - 236) + b + 1; in_range = (omega arith, omega arith) }) c,
      three_of 236 a b c (256 * (a - 236) + b + 1) refl write small,
    )
  ]
]

-- decisions

abbrev Decided : Type 0 → Type 0
Decided A = A ⊎ (A → ⊥)

both : {A B : Type 0} → Decided A → Decided B → Decided (A × B)
both (inl a) (inl b) = inl (a, b)
both (inr a) b = inr (λ h. a h.0)
both a (inr b) = inr (λ h. b h.1)

either : {A B : Type 0} → Decided A → Decided B → Decided (A ⊎ B)
either (inl a) b = inl (inl a)
either a (inl b) = inl (inr b)
either (inr a) (inr b) = inr (λ h. elim h [ inl x ↦ a x | inr x ↦ b x ])

is_below : (a b : ℕ) → Decided (a < b)
is_below a b = elim (cases_lt a b) [ inl h ↦ inl h | inr h ↦ inr (λ e. omega (arith, h, e)) ]

is_up : (a b : ℕ) → Decided (a ≤ b)
is_up a b = elim (cases_lt b a) [ inl h ↦ inr (λ e. omega (arith, h, e)) | inr h ↦ inl h ]

is_equal : (a b : ℕ) → Decided (a ≡ b)
is_equal a b = elim (cases_lt a b) [
  | inl h ↦ inr (λ e. omega (arith, h, e))
  | inr h ↦ elim (cases_lt b a) [ inl k ↦ inr (λ e. omega (arith, k, e)) | inr k ↦ inl (omega (arith, h, k)) ]
]

can_instruct : (bytes : List ℕ) → Decided (CanInstruct bytes)
can_instruct [] = inr (λ h. h)
can_instruct (a ∷ []) = either (is_equal a 0) (both (is_up 64 a) (is_below a 192))
can_instruct (a ∷ b ∷ []) = either (is_equal a 63) (both (is_up 216 a) (is_below a 224))
can_instruct (a ∷ b ∷ c ∷ []) =
    both (is_up 228 a) (both (is_below a 240) (either (either (is_below a 232) (is_up 236 a)) (is_up 224 c)))
can_instruct (a ∷ b ∷ c ∷ d ∷ bytes) = inr (λ h. h)

instructs : (bytes : List ℕ) → AllBytes bytes → CanInstruct bytes → Instructs bytes
unfolding AllBytes
instructs [] all h = absurd h
instructs (a ∷ []) all h = one a h
instructs (a ∷ b ∷ []) all h = two a b all.1.0 h
instructs (a ∷ b ∷ c ∷ []) all h = three a b c all.1.0 all.1.1.0 h.0 h.1.0 h.1.1
instructs (a ∷ b ∷ c ∷ d ∷ bytes) all h = absurd h

abbrev behind : List ℕ → List ℕ
behind [] = []
behind (b ∷ bytes) = bytes

-- idle, and accessory and signal packets, by the bytes behind the first
abbrev CanBeOther : ℕ → List ℕ → Type 0
CanBeOther a [] = ⊥
CanBeOther a (b ∷ []) = ((a ≡ 255) × (b ≡ 0)) ⊎ ((128 ≤ a) × ((a < 192) × (128 ≤ b)))
CanBeOther a (b ∷ c ∷ []) = (128 ≤ a) × ((a < 192) × ((b < 128) × ((b % 2 ≡ 1) × ((b / 8) % 2 ≡ 0))))
CanBeOther a bytes = ⊥

abbrev CanBeRow : List ℕ → Type 0
CanBeRow [] = ⊥
CanBeRow (a ∷ rest) =
    (((a < 128) × CanInstruct rest) ⊎ ((192 ≤ a) × ((a < 232) × CanInstruct (behind rest)))) ⊎ CanBeOther a rest

can_be_other : (a : ℕ) (rest : List ℕ) → Decided (CanBeOther a rest)
can_be_other a [] = inr (λ h. h)
can_be_other a (b ∷ []) =
    either (both (is_equal a 255) (is_equal b 0)) (both (is_up 128 a) (both (is_below a 192) (is_up 128 b)))
can_be_other a (b ∷ c ∷ []) =
    both (is_up 128 a)
    (both (is_below a 192) (both (is_below b 128) (both (is_equal (b % 2) 1) (is_equal ((b / 8) % 2) 0))))
can_be_other a (b ∷ c ∷ d ∷ bytes) = inr (λ h. h)

can_be_row : (bytes : List ℕ) → Decided (CanBeRow bytes)
can_be_row [] = inr (λ h. h)
can_be_row (a ∷ rest) =
    either (either (both (is_below a 128) (can_instruct rest))
    (both (is_up 192 a) (both (is_below a 232) (can_instruct (behind rest))))) (can_be_other a rest)

-- a packet whose bytes before the error byte are these
abbrev Encodes : List ℕ → Type 0
Encodes bytes = (packet : Packet) × (spelling packet ≡ with_error_byte bytes)

other_row : (a : ℕ) (rest : List ℕ) → AllBytes (a ∷ rest) → CanBeOther a rest → Encodes (a ∷ rest)
unfolding AllBytes
other_row a [] all h = absurd h
other_row a (b ∷ []) all (inl h) = (Idle, rw (h.0, h.1) refl)
other_row a (b ∷ []) all (inr h) =
    let on = a_bit ((b / 8) % 2) (omega arith) in
    let board : ℕ = a - 128 + 64 * (15 - b / 16) in
    let first : 128 + board % 64 ≡ a = omega (arith, all.0, h.0, h.1.0, h.1.1, all.1.0) in
    let second : 128 + 16 * (7 - board / 64) + 8 * bit on.0 + b % 8 ≡ b =
    omega (arith, h.0, h.1.0, h.1.1, all.1.0, on.1) in
    let same : (128 + board % 64) ∷ (128 + 16 * (7 - board / 64) + 8 * bit on.0 + b % 8) ∷ [] ≡ a ∷ b ∷ [] =
    rw (first, second) refl in (
      Accessory (record { number = board; in_range = omega (arith, h.1.0, h.1.1, all.1.0) })
          (record { number = b % 8; in_range = omega arith }) on.0,
      ap with_error_byte same,
    )
other_row a (b ∷ c ∷ []) all h =
    let board : ℕ = a - 128 + 64 * (7 - b / 16) in
    let number : ℕ = 4 * board + (b / 2) % 4 in
    let first : 128 + (number / 4) % 64 ≡ a = omega (arith, h.0, h.1.0, h.1.1.0) in
    let second : 16 * (7 - number / 4 / 64) + 2 * (number % 4) + 1 ≡ b =
    omega (arith, h.0, h.1.0, h.1.1.0, h.1.1.1.0, h.1.1.1.1) in
    let same : (128 + (number / 4) % 64) ∷ (16 * (7 - number / 4 / 64) + 2 * (number % 4) + 1) ∷ c ∷ []
    ≡ a ∷ b ∷ c ∷ [] = rw (first, second) refl in (
      Signal (record { number = number; in_range = omega (arith, h.1.0, h.1.1.0) }) c,
      ap with_error_byte same,
    )
other_row a (b ∷ c ∷ d ∷ bytes) all h = absurd h

loco_row : (to : Address) (rest : List ℕ) → AllBytes rest → CanInstruct rest → Encodes (address_bytes to ++ rest)
loco_row to rest all h =
    let w = instructs rest all h in (Loco to w.0, ap (λ l. with_error_byte (address_bytes to ++ l)) w.1)

row : (bytes : List ℕ) → AllBytes bytes → CanBeRow bytes → Encodes bytes
unfolding AllBytes
row [] all h = absurd h
row (zero ∷ rest) all (inl (inl h)) = loco_row Broadcast rest all.1 h.1
row (suc a ∷ rest) all (inl (inl h)) =
    loco_row (Short (record { number = suc a; in_range = (omega arith, omega (arith, h.0)) })) rest all.1 h.1
row (a ∷ []) all (inl (inr h)) = absurd h.1.1
row (a ∷ b ∷ rest) all (inl (inr h)) =
    let n : ℕ = 256 * (a - 192) + b in
    let first : 192 + n / 256 ≡ a = omega (arith, h.0, all.1.0) in
    let second : n % 256 ≡ b = omega (arith, all.1.0) in
    let w = loco_row (Long (record { number = n; in_range = omega (arith, h.1.0, h.0, all.1.0) })) rest all.1.1 h.1.1 in
    let same : (192 + n / 256) ∷ (n % 256) ∷ rest ≡ a ∷ b ∷ rest = rw (first, second) refl in
    (w.0, w.1 ∙ ap with_error_byte same)
row (a ∷ rest) all (inr h) = other_row a rest all h

row_can_be : (bytes : List ℕ) → IsPacketRow bytes → CanBeRow bytes
row_can_be bytes (inl e) = rw e (inr (inl (refl, refl)))
row_can_be bytes (inr (inl (Broadcast, what, e))) = rw e (inl (inl (omega arith, can what)))
row_can_be bytes (inr (inl (Short address, what, e))) = rw e (inl (inl (omega arith, can what)))
row_can_be bytes (inr (inl (Long address, what, e))) = rw e (inl (inr (omega arith, (omega arith, can what))))
row_can_be bytes (inr (inr (inl (board, output, on, e)))) =
    rw e (inr (inr (omega arith, (omega arith, omega arith))))
row_can_be bytes (inr (inr (inr (address, aspect, e)))) =
    rw e (inr (omega arith, (omega arith, (omega arith, (omega arith, omega arith)))))

AllBytes-take : (n : ℕ) (bytes : List ℕ) → AllBytes bytes → AllBytes (take n bytes)
unfolding AllBytes
AllBytes-take zero bytes all = tt
AllBytes-take (suc n) [] all = tt
AllBytes-take (suc n) (byte ∷ bytes) all = (all.0, AllBytes-take n bytes all.1)

pub frames_are_packets : (frame : List ℕ) → IsFrame frame → (packet : Packet) × (spelling packet ≡ frame)
frames_are_packets frame valid =
    let front : List ℕ = take (length frame - 1) frame in
    let all : AllBytes front = AllBytes-take (length frame - 1) frame (AllBytes-of frame valid.each) in
    elim (can_be_row front) [
      | inl can ↦ let p = row front all can in (p.0, p.1 ∙ sym (frame_parts frame valid))
      | inr none ↦
          let no_row : ¬ (HasRow frame) = in_no_row frame valid (λ r. none (row_can_be front r)) in
          (Other (record { frame = frame; valid = valid; no_row = no_row }), refl)
    ]
