-- Masks: which bits of a word they have, a word over another, and words that differ under them.
use Rattle.std.proofs.Common.{◌≡◌, ◌≢◌, ℕ, zero, suc, ◌+◌, ◌-◌, ◌*◌, ◌/◌, ◌%◌, ◌^◌, ◌<◌, ◌≤◌, min, Bool}
use Rattle.std.proofs.Common.{true, false}
use Rattle.std.proofs.Common.{refl, ◌∙◌, ap, arith, bit_and, bit_xor}
use Rattle.std.specs.Prelude.{◌==◌, ◌&&◌, nat_le, nat_lt, None, Some, not, unwrap_or, if◌then◌else◌}
use Rattle.std.specs.Int.{bit_at}
use Rattle.std.proofs.lemmas.Bool.{leb-true, leb-false, ltb-true, ltb-false}
use Rattle.std.proofs.lemmas.Nat.Bits.{bit_at_and, bit_at_xor, bit_at-lt, bit_at-zero, bit_at_ones}
use Rattle.std.proofs.lemmas.Nat.Bits.{bit_at_ones_above}
use Rattle.std.proofs.lemmas.Nat.Bits.{bit_at-pow_same, bit_at-pow_other, bit_at_above, bit_at_lowest, bit_at-suc}
use Rattle.std.proofs.lemmas.Nat.Bits.{bit_at_mask_inside, bit_at_mask_below, bit_at_mask_above}
use Rattle.std.proofs.lemmas.Bool.Decides.{Decides-eqb}
use Rattle.dcc_packet.specs.Bits.{is_one}
use Rattle.dcc_packet.proofs.BitLemmas.{either_by, shifted_one}
use Rattle.dcc_regs.specs.Effects.{Differ, where_one, masked_bit}
use Rattle.dcc_regs.specs.States.{is_binary_state}

-- the ones of a mask
ones_by : (k n : ℕ) (t : Bool) → nat_le n k ≡ t → is_one (2 ^ (k + 1) - 1) n ≡ t
ones_by k n true h =
    let low : n ≤ k = leb-true _ _ h in
    rw (bit_at_ones (k + 1) n (omega arith)) refl
ones_by k n false h =
    let high : k < n = leb-false _ _ h in
    rw (bit_at_ones_above (k + 1) n (omega arith)) refl

-- a mask of the bits up to k
pub ones_to : (mask k n : ℕ) → mask ≡ 2 ^ (k + 1) - 1 → is_one mask n ≡ nat_le n k
ones_to mask k n e = rw e (ones_by k n (nat_le n k) refl)

at_place : (n k : ℕ) (t : Bool) → (n == k) ≡ t → is_one (2 ^ k) n ≡ t
at_place n k true e = rw ((Decides-eqb n k).0 e, bit_at-pow_same k) refl
at_place n k false e =
    rw (bit_at-pow_other k n (λ same. let t : (n == k) ≡ true = (Decides-eqb n k).1 same in cc)) refl

-- a mask of one bit
pub one_at : (mask k n : ℕ) → mask ≡ 2 ^ k → is_one mask n ≡ (n == k)
one_at mask k n e = rw e (at_place n k (n == k) refl)

-- a word over another, bit by bit
over_by : (w b m r : ℕ) → w < 2 → b < 2 → m < 2 → r ≡ (w + min ((w + b) % 2) m) % 2
    → (r == 1) ≡ unwrap_or (if m == 1 then Some (b == 1) else None) (w == 1)
over_by w b zero r small little few e =
    let same : r ≡ w = omega arith in
    ap (λ x. x == 1) same
over_by w b (suc zero) r small little few e =
    let same : r ≡ b = omega arith in
    ap (λ x. x == 1) same
over_by w b (suc (suc m)) r small little few e = absurd (omega arith)

pub over_bit : (word mask bits n : ℕ)
    → is_one (bit_xor word (bit_and (bit_xor word bits) mask)) n
    ≡ unwrap_or (masked_bit mask bits n) (is_one word n)
over_bit word mask bits n =
    over_by (bit_at word n) (bit_at bits n) (bit_at mask n) _ (bit_at-lt word n) (bit_at-lt bits n) (bit_at-lt mask n)
    (bit_at_xor word (bit_and (bit_xor word bits) mask) n
    ∙ ap (λ x. (bit_at word n + x) % 2)
    (bit_at_and (bit_xor word bits) mask n ∙ ap (λ x. min x (bit_at mask n)) (bit_at_xor word bits n)))

-- a number that is not 0 has a one
some_bit_by : (k x : ℕ) → x ≤ k → x ≢ 0 → (n : ℕ) × (bit_at x n ≡ 1)
some_bit_by zero x most some = absurd (some (omega arith))
some_bit_by (suc k) x most some =
    either_by (x % 2) 1 (x % 2 == 1) refl
    (λ odd. (0, bit_at_lowest x ∙ odd))
    (λ even. let half = some_bit_by k (x / 2) (omega arith) (omega arith) in (suc half.0, bit_at-suc x half.0 ∙ half.1))

pub some_bit : (x : ℕ) → x ≢ 0 → (n : ℕ) × (bit_at x n ≡ 1)
some_bit x some = some_bit_by x x (omega arith) some

-- two words under their masks, bit by bit
differ_by : (ma mb ba bb x : ℕ) → ma < 2 → mb < 2 → ba < 2 → bb < 2 → x ≡ min (min ma mb) ((ba + bb) % 2) → x ≡ 1
    → Differ (if ma == 1 then Some (ba == 1) else None) (if mb == 1 then Some (bb == 1) else None)
differ_by zero mb ba bb x h i j k e one = absurd (omega arith)
differ_by (suc zero) zero ba bb x h i j k e one = absurd (omega arith)
differ_by (suc zero) (suc zero) zero zero x h i j k e one = absurd (omega arith)
differ_by (suc zero) (suc zero) zero (suc zero) x h i j k e one = λ same. cc
differ_by (suc zero) (suc zero) (suc zero) zero x h i j k e one = λ same. cc
differ_by (suc zero) (suc zero) (suc zero) (suc zero) x h i j k e one = absurd (omega arith)
differ_by ma mb ba bb x h i j k e one = absurd (omega arith)

differ_back : (ma mb ba bb x : ℕ) → ma < 2 → mb < 2 → ba < 2 → bb < 2 → x ≡ min (min ma mb) ((ba + bb) % 2)
    → Differ (if ma == 1 then Some (ba == 1) else None) (if mb == 1 then Some (bb == 1) else None) → x ≡ 1
differ_back zero mb ba bb x h i j k e d = absurd d
differ_back (suc zero) zero ba bb x h i j k e d = absurd d
differ_back (suc zero) (suc zero) zero zero x h i j k e d = absurd (d refl)
differ_back (suc zero) (suc zero) zero (suc zero) x h i j k e d = omega arith
differ_back (suc zero) (suc zero) (suc zero) zero x h i j k e d = omega arith
differ_back (suc zero) (suc zero) (suc zero) (suc zero) x h i j k e d = absurd (d refl)
differ_back ma mb ba bb x h i j k e d = absurd (omega arith)

common : (ma mb ba bb n : ℕ)
    → bit_at (bit_and (bit_and ma mb) (bit_xor ba bb)) n
    ≡ min (min (bit_at ma n) (bit_at mb n)) ((bit_at ba n + bit_at bb n) % 2)
common ma mb ba bb n =
    bit_at_and (bit_and ma mb) (bit_xor ba bb) n
    ∙ ap (λ x. min x (bit_at (bit_xor ba bb) n)) (bit_at_and ma mb n)
    ∙ ap (min (min (bit_at ma n) (bit_at mb n))) (bit_at_xor ba bb n)

pub words_differ : (ma mb ba bb : ℕ) → bit_and (bit_and ma mb) (bit_xor ba bb) ≢ 0
    → (n : ℕ) × Differ (masked_bit ma ba n) (masked_bit mb bb n)
words_differ ma mb ba bb some =
    let x : ℕ = bit_and (bit_and ma mb) (bit_xor ba bb) in
    let found : (n : ℕ) × (bit_at x n ≡ 1) = some_bit x some in
    let n : ℕ = found.0 in (
      n,
      differ_by (bit_at ma n) (bit_at mb n) (bit_at ba n) (bit_at bb n) (bit_at x n) (bit_at-lt ma n) (bit_at-lt mb n)
          (bit_at-lt ba n) (bit_at-lt bb n) (common ma mb ba bb n) found.1,
    )

pub differing_words : (ma mb ba bb : ℕ) → (n : ℕ) × Differ (masked_bit ma ba n) (masked_bit mb bb n)
    → bit_and (bit_and ma mb) (bit_xor ba bb) ≢ 0
differing_words ma mb ba bb (n, d) none =
    let one : bit_at (bit_and (bit_and ma mb) (bit_xor ba bb)) n ≡ 1 =
    differ_back (bit_at ma n) (bit_at mb n) (bit_at ba n) (bit_at bb n) _ (bit_at-lt ma n) (bit_at-lt mb n)
    (bit_at-lt ba n) (bit_at-lt bb n) (common ma mb ba bb n) d in
    let zero_bit : bit_at (bit_and (bit_and ma mb) (bit_xor ba bb)) n ≡ 0 = rw none (bit_at-zero n) in
    absurd (omega arith)

-- aspects
chosen_by : {A : Type 0} (ma mb x : ℕ) (a b : A) → ma < 2 → mb < 2 → x ≡ min ma mb → x ≡ 1 → a ≢ b
    → Differ (if ma == 1 then Some a else None) (if mb == 1 then Some b else None)
chosen_by zero mb x a b h k e one apart = absurd (omega arith)
chosen_by (suc zero) zero x a b h k e one apart = absurd (omega arith)
chosen_by (suc zero) (suc zero) x a b h k e one apart = apart
chosen_by ma mb x a b h k e one apart = absurd (omega arith)

chosen_back : {A : Type 0} (ma mb x : ℕ) (a b : A) → ma < 2 → mb < 2 → x ≡ min ma mb
    → Differ (if ma == 1 then Some a else None) (if mb == 1 then Some b else None) → (x ≡ 1) × (a ≢ b)
chosen_back zero mb x a b h k e d = absurd d
chosen_back (suc zero) zero x a b h k e d = absurd d
chosen_back (suc zero) (suc zero) x a b h k e d = (omega arith, d)
chosen_back ma mb x a b h k e d = absurd (omega arith)

pub values_differ : {A : Type 0} (ma mb : ℕ) (a b : A) → bit_and ma mb ≢ 0 → a ≢ b
    → (n : ℕ) × Differ (where_one ma a n) (where_one mb b n)
values_differ ma mb a b some apart =
    let found : (n : ℕ) × (bit_at (bit_and ma mb) n ≡ 1) = some_bit (bit_and ma mb) some in
    let n : ℕ = found.0 in (
      n,
      chosen_by (bit_at ma n) (bit_at mb n) _ a b (bit_at-lt ma n) (bit_at-lt mb n)
          (bit_at_and ma mb n) found.1 apart,
    )

pub differing_values : {A : Type 0} (ma mb : ℕ) (a b : A) → (n : ℕ) × Differ (where_one ma a n) (where_one mb b n)
    → (bit_and ma mb ≢ 0) × (a ≢ b)
differing_values ma mb a b (n, d) =
    let both = chosen_back (bit_at ma n) (bit_at mb n) _ a b (bit_at-lt ma n) (bit_at-lt mb n)
    (bit_at_and ma mb n) d in (
      λ none. let zero_bit : bit_at (bit_and ma mb) n ≡ 0 = rw none (bit_at-zero n) in
          let one : bit_at (bit_and ma mb) n ≡ 1 = both.0 in absurd (omega arith),
      both.1,
    )

-- a mask that has no bit
pub none_set : {A : Type 0} (mask : ℕ) (value : A) (n : ℕ) → mask ≡ 0 → where_one mask value n ≡ None
none_set mask value n e = rw (e, bit_at-zero n) refl

there : {A : Type 0} (m : ℕ) (a : A) → m ≡ 1 → (if m == 1 then Some a else None) ≡ None → ⊥
there m a one e = let some : Some a ≡ None = rw one at e in cc

pub no_mask : {A : Type 0} (mask : ℕ) (values : ℕ → A)
    → ((n : ℕ) → where_one mask (values n) n ≡ None) → (t : Bool) → (mask == 0) ≡ t → t ≡ true
no_mask mask values none true e = refl
no_mask mask values none false e =
    let found = some_bit mask (λ is. let same : (mask == 0) ≡ true = rw is refl in cc) in
    absurd (there (bit_at mask found.0) (values found.0) found.1 (none found.0))

-- a word that is all ones, or zero, under a mask of w bits
filled_by : (w mask n : ℕ) (a b : Bool) → mask < 2 ^ w → (n < w → a ≡ b) → (t : Bool) → nat_lt n w ≡ t
    → where_one mask a n ≡ where_one mask b n
filled_by w mask n a b small here true e = ap (λ v. where_one mask v n) (here (ltb-true _ _ e))
filled_by w mask n a b small here false e = rw (bit_at_above mask w n small (ltb-false _ _ e)) refl

pub all_ones : (w mask n : ℕ) → mask < 2 ^ w → masked_bit mask (2 ^ w - 1) n ≡ where_one mask true n
all_ones w mask n small =
    filled_by w mask n (is_one (2 ^ w - 1) n) true small (λ low. rw (bit_at_ones w n low) refl) (nat_lt n w) refl

pub all_zeros : (mask n : ℕ) → masked_bit mask 0 n ≡ where_one mask false n
all_zeros mask n = rw (bit_at-zero n) refl

-- the mask of binary states 1 to 127
state_by_place : (n : ℕ) (t u : Bool) → nat_le 1 n ≡ t → nat_le n 127 ≡ u → is_one (2 ^ 128 - 2 ^ 1) n ≡ (t && u)
state_by_place n true true low high =
    let some : 1 ≤ n = leb-true _ _ low in
    let most : n ≤ 127 = leb-true _ _ high in
    rw (bit_at_mask_inside 1 128 n (omega arith) (omega arith)) refl
state_by_place n true false low high =
    let much : 127 < n = leb-false _ _ high in
    rw (bit_at_mask_above 1 128 n (omega arith)) refl
state_by_place n false u low high =
    let none : n < 1 = leb-false _ _ low in
    rw (bit_at_mask_below 1 128 n (omega arith)) refl

pub all_states : (mask n : ℕ) → mask ≡ 2 ^ 128 - 2 ^ 1 → is_one mask n ≡ is_binary_state n
all_states mask n e = rw e (state_by_place n (nat_le 1 n) (nat_le n 127) refl refl)

pub not_equal : (x y : ℕ) → not (x == y) ≡ true → x ≢ y
not_equal x y t is = let same : (x == y) ≡ true = (Decides-eqb x y).1 is in cc

is_not_by : (x y : ℕ) (t : Bool) → (x == y) ≡ t → x ≢ y → not t ≡ true
is_not_by x y true e apart = absurd (apart ((Decides-eqb x y).0 e))
is_not_by x y false e apart = refl

pub is_not_equal : (x y : ℕ) → x ≢ y → not (x == y) ≡ true
is_not_equal x y = is_not_by x y (x == y) refl

-- masks of a table
pub lowest_alone : (value : Bool) (n : ℕ) → where_one 1 value n ≡ (if n == 0 then Some value else None)
lowest_alone value n = ap (λ t. if t then Some value else None) (one_at 1 0 n refl)

pub whole_byte : (n : ℕ) → where_one 255 false n ≡ (if nat_le n 7 then Some false else None)
whole_byte n = ap (λ t. if t then Some false else None) (ones_to 255 7 n refl)

pub byte_place : (k n m : ℕ) (value : Bool) → k ≡ m → k ≤ 7
    → where_one (1 * 2 ^ k % 256) value n ≡ (if n == m then Some value else None)
byte_place k n m value e low =
    ap (λ t. if t then Some value else None) (one_at (1 * 2 ^ k % 256) k n (shifted_one k low))
    ∙ ap (λ x. if n == x then Some value else None) e
