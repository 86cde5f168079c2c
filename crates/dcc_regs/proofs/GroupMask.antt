-- The mask of a function group, and its bits.
use Rattle.std.proofs.Common.{◌≡◌, ℕ, zero, suc, ◌+◌, ◌-◌, ◌*◌, ◌/◌, ◌%◌, ◌^◌, ◌<◌, ◌≤◌, max, Bool, true, false}
use Rattle.std.proofs.Common.{refl, sym, ◌∙◌, ap, arith, bit_and, bit_or}
use Rattle.std.specs.Prelude.{◌&&◌, nat_le, nat_lt, None, Some, option_map, if◌then◌else◌}
use Rattle.std.specs.Int.{bit_at}
use Rattle.std.proofs.lemmas.Bool.{leb-true, leb-false, ltb-true, ltb-false}
use Rattle.std.proofs.lemmas.Nat.{and_le_r, shl_whole, pow_pos}
use Rattle.std.proofs.lemmas.Nat.Bits.{bit_at_and, bit_at_or, bit_at-zero, bit_at_ones, bit_at_above}
use Rattle.std.proofs.lemmas.Nat.Bits.{bit_at_ones_above, bit_at_cat_low, bit_at_cat_high}
use mir.Val.{bool_byte}
use Rattle.dcc_packet.specs.declared.functions.Group.{Group}
use Rattle.dcc_packet.specs.declared.functions.Group.TheVariants.{F0}
use Rattle.dcc_packet.specs.declared.functions.GroupBits.{GroupBits}
use Rattle.dcc_packet.specs.Bits.{is_one}
use Rattle.dcc_regs.specs.Effects.{masked_bit}
use Rattle.dcc_regs.specs.FunctionBits.{function_place, group_bit}
use Rattle.dcc_regs.specs.Inner.GroupParts.{count_of, first_function}
use Rattle.dcc_regs.specs.declared.register.SpeedMode.{SpeedMode}
use Rattle.dcc_regs.specs.declared.register.SpeedMode.TheVariants.{Steps28}

-- what is shifted up begins at its place
shifted_from : (d first n : ℕ) → first ≤ n → bit_at (d * 2 ^ first) n ≡ bit_at d (n - first)
shifted_from d first n h =
    let whole : d * 2 ^ first ≡ d * 2 ^ first + 0 = omega arith in
    ap (λ x. bit_at x n) whole ∙ bit_at_cat_high d first 0 n (pow_pos first) h

shifted_below : (d first n : ℕ) → n < first → bit_at (d * 2 ^ first) n ≡ 0
shifted_below d first n h =
    let whole : d * 2 ^ first ≡ d * 2 ^ first + 0 = omega arith in
    ap (λ x. bit_at x n) whole ∙ bit_at_cat_low d first 0 n h ∙ bit_at-zero n

-- a byte that is shifted up, and a number below 2 beside it
abbrev beside : ℕ → ℕ → ℕ → ℕ
beside d first low = bit_or (d * 2 ^ first % 340282366920938463463374607431768211456) low

whole_byte : (d first : ℕ) → d < 256 → first ≤ 61 → d * 2 ^ first % 340282366920938463463374607431768211456
    ≡ d * 2 ^ first
whole_byte d first small few = shl_whole d 8 first 128 (omega arith) (omega arith)

beside_bit : (d first low n : ℕ) → d < 256 → first ≤ 61 → bit_at (beside d first low) n
    ≡ max (bit_at (d * 2 ^ first) n) (bit_at low n)
beside_bit d first low n small few =
    bit_at_or (d * 2 ^ first % 340282366920938463463374607431768211456) low n
    ∙ ap (λ x. max (bit_at x n) (bit_at low n)) (whole_byte d first small few)

max_right : (x y z : ℕ) → x ≡ max y z → y ≡ 0 → x ≡ z
max_right x y z e none = omega arith

max_left : (x y z : ℕ) → x ≡ max y z → z ≡ 0 → x ≡ y
max_left x y z e none = omega arith

none_above : (low n : ℕ) → low < 2 → 1 ≤ n → bit_at low n ≡ 0
none_above low n small some = bit_at_above low 1 n small some

-- the lowest bit is the lowest of the number beside
beside_lowest : (d first low : ℕ) → d < 256 → 1 ≤ first → first ≤ 61 → bit_at (beside d first low) 0 ≡ bit_at low 0
beside_lowest d first low small some few =
    max_right _ _ _ (beside_bit d first low 0 small few) (shifted_below d first 0 some)

beside_below : (d first low n : ℕ) → d < 256 → first ≤ 61 → low < 2 → 1 ≤ n → n < first
    → bit_at (beside d first low) n ≡ 0
beside_below d first low n small few little some below =
    max_right _ _ _ (beside_bit d first low n small few) (shifted_below d first n below) ∙ none_above low n little some

beside_from : (d first low n : ℕ) → d < 256 → first ≤ 61 → low < 2 → 1 ≤ n → first ≤ n
    → bit_at (beside d first low) n ≡ bit_at d (n - first)
beside_from d first low n small few little some from =
    max_left _ _ _ (beside_bit d first low n small few) (none_above low n little some) ∙ shifted_from d first n from

-- the functions of a group, F0 aside
place_by : (b ones first count low lower n : ℕ) (t u : Bool) → b < 256 → ones < 256 → ones ≡ 2 ^ count - 1 → first ≤ 61
    → low < 2 → lower < 2 → 1 ≤ n → nat_le first n ≡ t → nat_lt n (first + count) ≡ u
    → masked_bit (beside ones first low) (beside b first lower) n
    ≡ option_map (is_one b) (if t && u then Some (n - first) else None)
place_by b ones first count low lower n true true small byte is fits little lesser some e f =
    let from : first ≤ n = leb-true _ _ e in
    let to : n < first + count = ltb-true _ _ f in
    let mask : bit_at (beside ones first low) n ≡ 1 =
    beside_from ones first low n byte fits little some from ∙ ap (λ x. bit_at x (n - first)) is
    ∙ bit_at_ones count (n - first) (omega arith) in
    let value : bit_at (beside b first lower) n ≡ bit_at b (n - first) =
    beside_from b first lower n small fits lesser some from in
    rw (mask, value) refl
place_by b ones first count low lower n true false small byte is fits little lesser some e f =
    let from : first ≤ n = leb-true _ _ e in
    let past : first + count ≤ n = ltb-false _ _ f in
    let mask : bit_at (beside ones first low) n ≡ 0 =
    beside_from ones first low n byte fits little some from ∙ ap (λ x. bit_at x (n - first)) is
    ∙ bit_at_ones_above count (n - first) (omega arith) in
    rw mask refl
place_by b ones first count low lower n false u small byte is fits little lesser some e f =
    let below : n < first = leb-false _ _ e in
    rw (beside_below ones first low n byte fits little some below) refl

-- F0
f0_by : (b ones first : ℕ) (has : Bool) → b < 256 → ones < 256 → 1 ≤ first → first ≤ 61
    → masked_bit (beside ones first (if has then 1 else 0)) (beside b first (bit_and (b / 16) (if has then 1 else 0))) 0
    ≡ option_map (is_one b) (if has then Some 4 else None)
f0_by b ones first true small byte some fits =
    let mask : bit_at (beside ones first 1) 0 ≡ 1 = beside_lowest ones first 1 byte some fits in
    let value : bit_at (beside b first (bit_and (b / 16) 1)) 0 ≡ bit_at b 4 =
    beside_lowest b first (bit_and (b / 16) 1) small some fits ∙ bit_at_and (b / 16) 1 0 ∙ omega arith in
    rw (mask, value) refl
f0_by b ones first false small byte some fits =
    let mask : bit_at (beside ones first 0) 0 ≡ 0 = beside_lowest ones first 0 byte some fits in
    rw mask refl

first_place : (group : Group) → (1 ≤ first_function group) × (first_function group ≤ 61)
first_place F0 = (omega arith, omega arith)
first_place group = (omega arith, omega arith)

-- the place of a function other than F0
place_of : (mode : SpeedMode) (group : Group) (n : ℕ)
    → function_place mode group (suc n)
    ≡ (if nat_le (first_function group) (suc n) && nat_lt (suc n) (first_function group + count_of group)
    then Some (suc n - first_function group) else None)
place_of Steps28 F0 n = refl
place_of mode group n = refl

below_two : (has : Bool) → (if has then 1 else 0) < 2
below_two true = omega arith
below_two false = omega arith

-- the mask and the bits of a group, with F0 at the lowest place
group_by : (mode : SpeedMode) (bits : GroupBits) (ones n : ℕ) (has : Bool) → ones ≡ 2 ^ count_of bits.group - 1
    → ones < 256 → bits.bits < 256 → function_place mode bits.group 0 ≡ (if has then Some 4 else None)
    → masked_bit (beside ones (first_function bits.group) (if has then 1 else 0))
    (beside bits.bits (first_function bits.group) (bit_and (bits.bits / 16) (if has then 1 else 0))) n
    ≡ group_bit mode bits n
group_by mode bits ones zero has is byte small f0 =
    let fits = first_place bits.group in
    f0_by bits.bits ones (first_function bits.group) has small byte fits.0 fits.1
    ∙ ap (option_map (is_one bits.bits)) (sym f0)
group_by mode bits ones (suc n) has is byte small f0 =
    let fits = first_place bits.group in
    let low : (if has then 1 else 0) < 2 = below_two has in
    let most : bit_and (bits.bits / 16) (if has then 1 else 0) ≤ (if has then 1 else 0) =
    and_le_r (bits.bits / 16) (if has then 1 else 0) in
    place_by bits.bits ones (first_function bits.group) (count_of bits.group) (if has then 1 else 0)
    (bit_and (bits.bits / 16) (if has then 1 else 0)) (suc n)
    (nat_le (first_function bits.group) (suc n)) (nat_lt (suc n) (first_function bits.group + count_of bits.group))
    small byte is fits.1 low (omega arith) (omega arith) refl refl
    ∙ ap (option_map (is_one bits.bits)) (sym (place_of mode bits.group n))

as_number : (has : Bool) → bool_byte has ≡ (if has then 1 else 0)
as_number true = refl
as_number false = refl

pub group_masked : (mode : SpeedMode) (bits : GroupBits) (first b high ones low n : ℕ) (has : Bool)
    → first ≡ first_function bits.group → b ≡ bits.bits → high ≡ bits.bits / 16 → ones ≡ 2 ^ count_of bits.group - 1
    → ones < 256 → bits.bits < 256 → low ≡ bool_byte has
    → function_place mode bits.group 0 ≡ (if has then Some 4 else None)
    → masked_bit (bit_or (ones * 2 ^ first % 340282366920938463463374607431768211456) low)
    (bit_or (b * 2 ^ first % 340282366920938463463374607431768211456) (bit_and high low)) n
    ≡ group_bit mode bits n
group_masked mode bits first b high ones low n has e f h g byte small l f0 =
    rw (e, f, h, l ∙ as_number has) (group_by mode bits ones n has g byte small f0)
