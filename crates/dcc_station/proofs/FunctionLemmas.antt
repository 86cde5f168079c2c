-- One function that is turned, and the packet of its group.
use Rattle.std.proofs.Common.{◌≡◌, ℕ, zero, suc, ◌+◌, ◌-◌, ◌*◌, ◌/◌, ◌%◌, ◌^◌, ◌<◌, ◌≤◌, Bool, true, false, refl, sym}
use Rattle.std.proofs.Common.{◌∙◌, ap, arith, inl, inr, bit_and}
use Rattle.std.specs.Prelude.{◌==◌, ◌&&◌, ◌⊎◌, nat_le, nat_lt, Option, None, Some, IsSome, option_map, unwrap_or}
use Rattle.std.specs.Prelude.{if◌then◌else◌}
use Rattle.std.specs.Int.{bit_at}
use Rattle.std.proofs.lemmas.Bool.{leb-true, ltb-true}
use Rattle.std.proofs.lemmas.Bool.Decides.{Decides-eqb}
use Rattle.std.proofs.lemmas.Nat.{shr-shr}
use Rattle.std.proofs.lemmas.Nat.Bits.{bit_at_cat_low, bit_at_cat_high, bit_at_lowest}
use Rattle.dcc_packet.specs.Bits.{is_one}
use Rattle.dcc_packet.specs.declared.address.Address.{Address}
use Rattle.dcc_packet.specs.declared.address.Address.TheVariants.{Broadcast, Short, Long}
use Rattle.dcc_packet.specs.declared.functions.Group.{Group}
use Rattle.dcc_packet.specs.declared.functions.Group.TheVariants.{F0}
use Rattle.dcc_packet.specs.declared.functions.GroupBits.{GroupBits}
use Rattle.dcc_packet.specs.declared.instruction.What.TheVariants.{Functions}
use Rattle.dcc_packet.specs.declared.packet.Packet.TheVariants.{Loco as ToLoco}
use Rattle.dcc_regs.specs.declared.register.Register.TheVariants.{Function}
use Rattle.dcc_regs.specs.declared.register.SpeedMode.{SpeedMode}
use Rattle.dcc_regs.specs.declared.register.SpeedMode.TheVariants.{Steps14, Steps28}
use Rattle.dcc_regs.specs.declared.register.Value.{Value}
use Rattle.dcc_regs.specs.declared.register.Value.TheVariants.{Flag}
use Rattle.dcc_regs.specs.declared.register.Who.{Who}
use Rattle.dcc_regs.specs.Effects.{masked_bit, where_one}
use Rattle.dcc_regs.specs.FunctionBits.{function_place, group_bit}
use Rattle.dcc_regs.specs.Heard.{hears}
use Rattle.dcc_regs.specs.Result.{RegisterMap, step}
use Rattle.dcc_regs.specs.Sets.{sets}
use Rattle.dcc_regs.specs.Setting.{mode_in, set_from, value_over}
use Rattle.dcc_regs.proofs.MaskLemmas.{all_ones, all_zeros, one_at}
use Rattle.dcc_regs.proofs.Packing.{low_bits}
use Rattle.dcc_regs.proofs.RegisterStep.{step-sets}
use Rattle.dcc_station.specs.Functions.{HasFunctions, HasStates, IsTurned, is_in_a_group}

-- a function is turned
set_by : (t on old : Bool) → unwrap_or (if t then Some on else None) old ≡ (if t then on else old)
set_by true on old = refl
set_by false on old = refl

filled : (mask bits n : ℕ) (on : Bool) → mask < 2 ^ 128 → bits ≡ (if on then 2 ^ 128 - 1 else 0)
    → masked_bit mask bits n ≡ where_one mask on n
filled mask bits n true small e = rw e (all_ones 128 mask n small)
filled mask bits n false small e = rw e (all_zeros mask n)

pub turned_over : (word mask bits f n : ℕ) (on : Bool) → mask ≡ 2 ^ f → mask < 2 ^ 128
    → bits ≡ (if on then 2 ^ 128 - 1 else 0)
    → unwrap_or (masked_bit mask bits n) (is_one word n) ≡ (if n == f then on else is_one word n)
turned_over word mask bits f n on m small e =
    ap (λ (o : Option Bool). unwrap_or o (is_one word n)) (filled mask bits n on small e)
    ∙ ap (λ (t : Bool). unwrap_or (if t then Some on else None) (is_one word n)) (one_at mask f n m)
    ∙ set_by (n == f) on (is_one word n)

-- the places of functions
some_same : (x y : ℕ) → Some x ≡ Some y → x ≡ y
some_same x y e = cc

by_tests : (first count n place : ℕ) (u v : Bool) → nat_le first n ≡ u → nat_lt n (first + count) ≡ v
    → (if u && v then Some (n - first) else None) ≡ Some place → (place < count) × (n ≡ first + place)
by_tests first count n place true true f g is =
    let from : first ≤ n = leb-true first n f in
    let below : n < first + count = ltb-true n (first + count) g in
    let at : n - first ≡ place = some_same (n - first) place is in
    (omega arith, omega arith)
by_tests first count n place true false f g is = absurd (cc)
by_tests first count n place false v f g is = absurd (cc)

pub place_in : (first count n place : ℕ)
    → (if nat_le first n && nat_lt n (first + count) then Some (n - first) else None) ≡ Some place
    → (place < count) × (n ≡ first + place)
place_in first count n place is =
    by_tests first count n place (nat_le first n) (nat_lt n (first + count)) refl refl is

place_in_first : (n place : ℕ) → function_place Steps28 F0 n ≡ Some place
    → ((n ≡ 0) × (place ≡ 4)) ⊎ ((place < 4) × (n ≡ 1 + place))
place_in_first zero place is = inl (refl, sym (some_same 4 place is))
place_in_first (suc n) place is = inr (place_in 1 4 (suc n) place is)

-- the states of a group
pub masked_from : (functions first mask count place : ℕ) → mask ≡ 2 ^ count - 1 → place < count
    → is_one (bit_and (functions / 2 ^ first) mask) place ≡ is_one functions (first + place)
masked_from functions first mask count place e below =
    low_bits (functions / 2 ^ first) mask count place e below
    ∙ ap (λ x. x % 2 == 1) (shr-shr functions first place)

f0_at : (functions low : ℕ) → low ≤ 15 → is_one (functions % 2 * 2 ^ 4 + low) 4 ≡ is_one functions 0
f0_at functions low small =
    let high : bit_at (functions % 2 * 2 ^ 4 + low) 4 ≡ bit_at (functions % 2) 0 =
    bit_at_cat_high (functions % 2) 4 low 4 (omega arith) (omega arith) in
    let b : bit_at (functions % 2 * 2 ^ 4 + low) 4 ≡ bit_at functions 0 =
    omega (arith, high, bit_at_lowest (functions % 2), bit_at_lowest functions) in
    ap (λ x. x == 1) b

pub first_states : (functions low byte n place : ℕ) → byte ≡ functions % 2 * 2 ^ 4 + low → low ≤ 15
    → ((k : ℕ) → k < 4 → is_one low k ≡ is_one functions (1 + k)) → function_place Steps28 F0 n ≡ Some place
    → is_one byte place ≡ is_one functions n
first_states functions low byte n place e small states is = by_place (place_in_first n place is) where
  by_place : ((n ≡ 0) × (place ≡ 4)) ⊎ ((place < 4) × (n ≡ 1 + place)) → is_one byte place ≡ is_one functions n
  by_place (inl (none, four)) = rw (none, four, e) (f0_at functions low small)
  by_place (inr (below, next)) =
      rw (next, e) (ap (λ x. x == 1) (bit_at_cat_low (functions % 2) 4 low place below) ∙ states place below)

pub group_states : (functions byte first count n place : ℕ)
    → ((k : ℕ) → k < count → is_one byte k ≡ is_one functions (first + k))
    → (if nat_le first n && nat_lt n (first + count) then Some (n - first) else None) ≡ Some place
    → is_one byte place ≡ is_one functions n
group_states functions byte first count n place states is =
    let at = place_in first count n place is in
    rw at.1 (states place at.0)

-- a decoder follows
same_places : (mode : SpeedMode) (group : Group) (n : ℕ) → is_in_a_group mode n ≡ true
    → function_place mode group n ≡ function_place Steps28 group n
same_places Steps28 group n is = refl
same_places Steps14 F0 zero is = absurd (cc)
same_places Steps14 F0 (suc n) is = refl
same_places Steps14 group n is = refl

group_sets : (mode : SpeedMode) (to : Address) (bits : GroupBits) (n : ℕ)
    → sets mode (ToLoco to (Functions bits)) (Function n) ≡ option_map Flag (group_bit mode bits n)
group_sets Steps14 Broadcast bits n = refl
group_sets Steps14 (Short own) bits n = refl
group_sets Steps14 (Long own) bits n = refl
group_sets Steps28 Broadcast bits n = refl
group_sets Steps28 (Short own) bits n = refl
group_sets Steps28 (Long own) bits n = refl

none_there : (o : Option ℕ) → IsSome o → o ≡ None → ⊥
none_there None some e = absurd (cc)
none_there (Some place) some e = absurd (cc)

-- a function after a heard packet, from the place that the function has in the group
after_by : (bits : GroupBits) (before function after n : ℕ) (on : Bool) (mode : SpeedMode)
    → IsSome (function_place Steps28 bits.group function) → HasStates after bits → IsTurned before function on after
    → is_in_a_group mode n ≡ true → (o : Option ℕ) → function_place mode bits.group n ≡ o
    → Some (unwrap_or (option_map Flag (option_map (is_one bits.bits) o)) (Flag (is_one before n)))
    ≡ Some (Flag (is_one after n))
after_by bits before function after n on mode in_group states turned is (Some place) e =
    ap (λ (one : Bool). Some (Flag one)) (states n place (sym (same_places mode bits.group n is) ∙ e))
after_by bits before function after n on mode in_group states turned is None e =
    ap (λ (one : Bool). Some (Flag one)) (sym (turned n ∙ other (n == function) refl))
  where
    other : (t : Bool) → (n == function) ≡ t → (if t then on else is_one before n) ≡ is_one before n
    other false apart = refl
    other true equal =
        let same : n ≡ function = (Decides-eqb n function).0 equal in
        absurd (none_there (function_place Steps28 bits.group function) in_group
        (rw (← same) (sym (same_places mode bits.group n is) ∙ e)))

pub decoder_follows : (to : Address) (bits : GroupBits) (before function after : ℕ) (on : Bool)
    → IsSome (function_place Steps28 bits.group function) → HasStates after bits → IsTurned before function on after
    → (who : Who) (start : RegisterMap) → hears who (ToLoco to (Functions bits)) ≡ true
    → HasFunctions (mode_in start) before start
    → HasFunctions (mode_in start) after (step who start (ToLoco to (Functions bits)))
decoder_follows to bits before function after on in_group states turned who start heard has n is =
    let set : Option Value = set_from start (ToLoco to (Functions bits)) (Function n) in
    step-sets who start (ToLoco to (Functions bits)) (Function n)
    ∙ ap (λ (t : Bool). if t then value_over (start (Function n)) set else start (Function n)) heard
    ∙ ap (λ (held : Option Value). value_over held set) (has n is)
    ∙ ap (λ (now : Option Value). Some (unwrap_or now (Flag (is_one before n)))) (group_sets (mode_in start) to bits n)
    ∙ after_by bits before function after n on (mode_in start) in_group states turned is
    (function_place (mode_in start) bits.group n) refl
