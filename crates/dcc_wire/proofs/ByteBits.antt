-- The bits of bytes, and the bytes that bits begin with.
use Rattle.std.proofs.Common.{◌≡◌, ℕ, suc, zero, ◌+◌, ◌-◌, ◌*◌, ◌/◌, ◌<◌, ◌≤◌, inl, inr, Bool, true, false, cond, eqb}
use Rattle.std.proofs.Common.{List, [], ◌∷◌, ◌++◌, length, length-append, drop, replicate, Some, None, refl, sym, ap}
use Rattle.std.proofs.Common.{◌∙◌, arith, ◌^◌, Option, append_assoc, append-nil, ◌⊎◌, take, length-take, add-zero}
use Rattle.std.specs.Int.{bit_at}
use Rattle.std.specs.List.{fold}
use Rattle.std.specs.Option.{option_map}
use Rattle.std.proofs.Math.ListN.{drop_of_length-le, length-replicate}
use Rattle.std.proofs.Math.Nat.{pow-suc}
use Rattle.std.proofs.lemmas.Bool.{cases_lt, lt-ltb, le-ltb, agree_below_at, eqb-true}
use Rattle.std.proofs.lemmas.Bool.Decides.{nat_tests}
use Rattle.std.proofs.lemmas.List.{take-append-drop, drop-append-le, drop-replicate}
use Rattle.std.proofs.Math.Seq.{drop-append-add}
use Rattle.std.proofs.lemmas.Nat.Bits.{bit_at_lowest, bit_at-suc}
use Rattle.dcc_wire.specs.Bodies.{bits_of, body_bits, number_of}
use Rattle.dcc_wire.specs.Frames.{AllBytes}
use Rattle.dcc_wire.specs.Outcomes.{bytes_in}
use Rattle.dcc_wire.specs.Packed.{byte_bits}
use mir.Val.{bool_byte}

-- options

pub cases_Option : {A : Type 0} (o : Option A) → (o ≡ None) ⊎ ((x : A) × (o ≡ Some x))
cases_Option None = inl refl
cases_Option (Some x) = inr (x, refl)

pub some_same : {A : Type 0} {x y : A} → Some x ≡ Some y → x ≡ y
some_same e = cc

option_map_some : {A B : Type 0} (f : A → B) (o : Option A) (y : B) → option_map f o ≡ Some y
    → (x : A) × (o ≡ Some x) × (f x ≡ y)
option_map_some f None y e = cc
option_map_some f (Some x) y e = (x, refl, cc)

option_map-none : {A B : Type 0} (f : A → B) (o : Option A) → option_map f o ≡ None → o ≡ None
option_map-none f o e = grind arith

-- the bits of a number

pub length-bits_of : (n number : ℕ) → length (bits_of n number) ≡ n
unfolding bits_of
length-bits_of zero number = refl
length-bits_of (suc n) number = ap suc (length-bits_of n number)

-- the bits of a byte spell it
pub number_of-bits_of : (byte : ℕ) → byte < 256 → number_of (bits_of 8 byte) ≡ byte
unfolding number_of bits_of
number_of-bits_of byte small =
    eqb-true _ _ (agree_below_at (λ b. eqb (number_of (bits_of 8 b)) b) (λ _. true) 256 byte refl small)

-- a bit that is shifted in
halved : (s : ℕ) (bit : Bool) → (2 * s + cond bit 1 0) / 2 ≡ s
halved s bit = grind arith

lowest : (s : ℕ) (bit : Bool) → eqb (bit_at (2 * s + cond bit 1 0) 0) 1 ≡ bit
lowest s bit = grind (arith, nat_tests, bit_at_lowest)

pub bits_of-bit : (c s : ℕ) (bit : Bool) → bits_of (suc c) (2 * s + cond bit 1 0) ≡ bits_of c s ++ bit ∷ []
unfolding bits_of
bits_of-bit zero s bit = rw (lowest s bit)
bits_of-bit (suc c) s bit = rw (bit_at-suc (2 * s + cond bit 1 0) c, halved s bit, bits_of-bit c s bit)

-- what `u8::from` makes of a bit
pub byte_of_bool : (bit : Bool) → bool_byte bit ≡ cond bit 1 0
byte_of_bool bit = grind arith

-- any bits are the bits of a number

bits_of-fold : (c s : ℕ) (bits : List Bool)
    → bits_of (c + length bits) (fold (λ a bit. 2 * a + cond bit 1 0) s bits) ≡ bits_of c s ++ bits
bits_of-fold c s [] = rw (add-zero, append-nil)
bits_of-fold c s (bit ∷ bits) =
    let more : c + length (bit ∷ bits) ≡ suc c + length bits = omega arith in
    rw (more, bits_of-fold (suc c) (2 * s + cond bit 1 0) bits, bits_of-bit c s bit, append_assoc)

fold_small : (s : ℕ) (bits : List Bool) → fold (λ a bit. 2 * a + cond bit 1 0) s bits < (s + 1) * 2 ^ length bits
fold_small s [] = omega arith
fold_small s (true ∷ bits) = rw (pow-suc 2 (length bits)) (omega (arith, fold_small (2 * s + 1) bits))
fold_small s (false ∷ bits) = rw (pow-suc 2 (length bits)) (omega (arith, fold_small (2 * s + 0) bits))

pub bits_of-number_of : (bits : List Bool) → length bits ≡ 8 → bits_of 8 (number_of bits) ≡ bits
unfolding number_of bits_of
bits_of-number_of bits eight = let all : 0 + length bits ≡ 8 = omega arith in rw all at (bits_of-fold 0 0 bits)

pub number_of-small : (bits : List Bool) → length bits ≡ 8 → number_of bits < 256
unfolding number_of
number_of-small bits eight = let small = rw eight at (fold_small 0 bits) in omega (arith, small)

-- the bits of bytes

pub body_bits-end : (bytes : List ℕ) → body_bits bytes ≡ byte_bits bytes ++ true ∷ []
unfolding body_bits byte_bits bits_of
body_bits-end [] = refl
body_bits-end (byte ∷ bytes) = rw (body_bits-end bytes)

pub byte_bits-append : (xs ys : List ℕ) → byte_bits (xs ++ ys) ≡ byte_bits xs ++ byte_bits ys
unfolding byte_bits bits_of
byte_bits-append [] ys = refl
byte_bits-append (byte ∷ xs) ys = rw (byte_bits-append xs ys)

pub length-byte_bits : (bytes : List ℕ) → length (byte_bits bytes) ≡ 9 * length bytes
unfolding byte_bits bits_of
length-byte_bits [] = refl
length-byte_bits (byte ∷ bytes) = omega (arith, length-byte_bits bytes)

pub length-body_bits : (bytes : List ℕ) → length (body_bits bytes) ≡ 9 * length bytes + 1
length-body_bits bytes =
    rw (body_bits-end bytes) (omega (arith, length-append (byte_bits bytes) (true ∷ []), length-byte_bits bytes))

pub AllBytes-append : (xs ys : List ℕ) → AllBytes xs → AllBytes ys → AllBytes (xs ++ ys)
unfolding AllBytes
AllBytes-append [] ys all more = more
AllBytes-append (byte ∷ xs) ys all more = (all.0, AllBytes-append xs ys all.1 more)

-- what is read from a zero and the bits behind it

zero_long : (n : ℕ) (bits : List Bool) → 8 ≤ length bits
    → bytes_in (suc n) (false ∷ bits)
    ≡ option_map (λ q. (number_of (take 8 bits) ∷ q.0, q.1)) (bytes_in n (drop 8 bits))
unfolding bytes_in
zero_long n bits h = rw (le-ltb (length bits) 8 h)

pub zero_short : (n : ℕ) (bits : List Bool) → length bits ≤ 8 → bytes_in (suc n) (false ∷ bits) ≡ None
unfolding bytes_in
zero_short n bits h = elim (cases_lt (length bits) 8) [
  | inl short ↦ rw (lt-ltb (length bits) 8 short)
  | inr long ↦ zero_long n bits long ∙ rw (drop_of_length-le bits {i = 8} h)
]

pub bytes_in-byte : (n byte : ℕ) (more : List Bool) → byte < 256
    → bytes_in (suc n) (false ∷ bits_of 8 byte ++ more)
    ≡ option_map {U = List ℕ × Bool} (λ q. (byte ∷ q.0, q.1)) (bytes_in n more)
unfolding bits_of
bytes_in-byte n byte more small =
    zero_long n (bits_of 8 byte ++ more) (omega arith) ∙ rw (number_of-bits_of byte small)

-- eight bits are a byte, and it is read
first_byte : (n : ℕ) (bits : List Bool) → 8 ≤ length bits
    → (byte : ℕ) × (byte < 256) × (rest : List Bool) × (bits ≡ bits_of 8 byte ++ rest)
    × (bytes_in (suc n) (false ∷ bits) ≡ option_map {U = List ℕ × Bool} (λ q. (byte ∷ q.0, q.1)) (bytes_in n rest))
first_byte n bits long =
    let eight : length (take 8 bits) ≡ 8 = omega (arith, length-take 8 bits) in (
      number_of (take 8 bits),
      number_of-small (take 8 bits) eight,
      drop 8 bits,
      rw (bits_of-number_of (take 8 bits) eight, take-append-drop),
      zero_long n bits long,
    )

-- bytes and the bit that closes them are read, whatever follows
pub bytes_in-closed : (n : ℕ) (bytes : List ℕ) (last : Bool) (more : List Bool) → AllBytes bytes → length bytes ≤ n
    → (last ≡ false → length bytes ≡ n) → bytes_in n (byte_bits bytes ++ last ∷ more) ≡ Some (bytes, last)
unfolding byte_bits bits_of bytes_in AllBytes
bytes_in-closed n [] true more each few full = refl
bytes_in-closed zero [] false more each few full = refl
bytes_in-closed (suc n) [] false more each few full = absurd (omega (arith, full refl))
bytes_in-closed zero (byte ∷ bytes) last more each few full = absurd (omega (arith, few))
bytes_in-closed (suc n) (byte ∷ bytes) last more each few full =
    bytes_in-byte n byte (byte_bits bytes ++ last ∷ more) each.0
    ∙ rw (bytes_in-closed n bytes last more each.1 (omega (arith, few)) (λ zero_last. omega (arith, full zero_last)))

pub bytes_in-body : (n : ℕ) (bytes : List ℕ) → AllBytes bytes → length bytes ≤ n
    → bytes_in n (body_bits bytes) ≡ Some (bytes, true)
bytes_in-body n bytes each few = rw body_bits-end (bytes_in-closed n bytes true [] each few (λ e. cc))

-- bits that bytes were read from begin with those bytes and the bit that closes them

pub record Reads (n : ℕ) (bits : List Bool) (bytes : List ℕ) (last : Bool) : Type 0 where
  pub each : AllBytes bytes
  pub few : length bytes ≤ n
  pub full : last ≡ false → length bytes ≡ n
  pub more : List Bool
  pub is : bits ≡ byte_bits bytes ++ last ∷ more

pub bytes_in-reads : (n : ℕ) (bits : List Bool) (p : List ℕ × Bool) → bytes_in n bits ≡ Some p → Reads n bits p.0 p.1
unfolding bytes_in AllBytes byte_bits bits_of
bytes_in-reads n [] p e = cc
bytes_in-reads n (true ∷ bits) p e =
    rw (← some_same e) (record { each = tt; few = omega arith; full = λ q. cc; more = bits; is = refl })
bytes_in-reads zero (false ∷ bits) p e =
    rw (← some_same e) (record { each = tt; few = omega arith; full = λ q. refl; more = bits; is = refl })
bytes_in-reads (suc n) (false ∷ bits) p e = elim (cases_lt (length bits) 8) [
  | inl short ↦ absurd (cc (zero_short n bits (omega (arith, short))))
  | inr long ↦
      let b = first_byte n bits long in
      let w = option_map_some _ (bytes_in n b.2) p (sym b.4 ∙ e) in
      let r = bytes_in-reads n b.2 w.0 w.1 in
      rw (← w.2) (record {
        each = (b.1, r.each);
        few = omega (arith, r.few);
        full = λ zero_last. ap suc (r.full zero_last);
        more = r.more;
        is = ap (λ l. false ∷ l) b.3 ∙ ap (λ l. false ∷ bits_of 8 b.0 ++ l) r.is;
      })
]

pub bytes_in-more : (n : ℕ) (bits more : List Bool) (p : List ℕ × Bool) → bytes_in n bits ≡ Some p
    → bytes_in n (bits ++ more) ≡ Some p
bytes_in-more n bits more p e =
    let r = bytes_in-reads n bits p e in
    rw (r.is, append_assoc) (bytes_in-closed n p.0 p.1 (r.more ++ more) r.each r.few r.full)

pub bytes_in-long : (n : ℕ) (bits : List Bool) (p : List ℕ × Bool) → bytes_in n bits ≡ Some p
    → 9 * length p.0 + 1 ≤ length bits
bytes_in-long n bits p e =
    let r = bytes_in-reads n bits p e in
    omega (arith, ap length r.is, length-append (byte_bits p.0) (p.1 ∷ r.more), length-byte_bits p.0)

-- one bit more closes whole bytes, or nothing
pub next_bit : (n : ℕ) (bits : List Bool) (bit : Bool) → bytes_in n bits ≡ None
    → (bytes_in n (bits ++ bit ∷ []) ≡ None)
    ⊎ ((bytes : List ℕ) × (9 * length bytes ≡ length bits) × (bytes_in n (bits ++ bit ∷ []) ≡ Some (bytes, bit)))
unfolding bytes_in bits_of
next_bit n [] true e = inr ([], refl, refl)
next_bit zero [] false e = inr ([], refl, refl)
next_bit (suc n) [] false e = inl refl
next_bit n (true ∷ bits) bit e = cc
next_bit zero (false ∷ bits) bit e = cc
next_bit (suc n) (false ∷ bits) bit e = elim (cases_lt (length bits) 8) [
  | inl short ↦ inl (zero_short n (bits ++ bit ∷ []) (omega (arith, length-append bits (bit ∷ []))))
  | inr long ↦
      let b = first_byte n bits long in
      let next = ap (λ l. bytes_in (suc n) (false ∷ l ++ bit ∷ [])) b.3 ∙ bytes_in-byte n b.0 (b.2 ++ bit ∷ []) b.1 in
      elim (next_bit n b.2 bit (option_map-none _ (bytes_in n b.2) (sym b.4 ∙ e))) [
        | inl none ↦ inl (next ∙ rw none)
        | inr (bytes, whole, is) ↦ inr (b.0 ∷ bytes, omega (arith, whole, ap length b.3), next ∙ rw is)
      ]
]

-- nine ones close bytes that are unfinished
pub nine_ones : (n : ℕ) (bits : List Bool) → bytes_in n bits ≡ None
    → (bytes : List ℕ) × (bytes_in n (bits ++ replicate 9 true) ≡ Some (bytes, true))
unfolding bytes_in
nine_ones n [] e = ([], refl)
nine_ones n (true ∷ bits) e = cc
nine_ones zero (false ∷ bits) e = cc
nine_ones (suc n) (false ∷ bits) e =
    let all : List Bool = bits ++ replicate 9 true in
    let many : 8 ≤ length all = omega (arith, length-append bits (replicate 9 true), length-replicate 9 true) in
    elim (cases_lt (length bits) 8) [
      | inl short ↦
          let eight : 8 ≡ length bits + (8 - length bits) = omega (arith, short) in
          let left : 9 - (8 - length bits) ≡ suc (length bits) = omega (arith, short) in
          let ones : drop 8 all ≡ true ∷ replicate (length bits) true =
          ap (λ k. drop k all) eight ∙ drop-append-add bits (replicate 9 true) (8 - length bits)
          ∙ rw (drop-replicate, left) in
          (number_of (take 8 all) ∷ [], zero_long n all many ∙ rw ones)
      | inr long ↦
          let none = option_map-none _ (bytes_in n (drop 8 bits)) (sym (zero_long n bits long) ∙ e) in
          let w = nine_ones n (drop 8 bits) none in (
            number_of (take 8 all) ∷ w.0,
            zero_long n all many ∙ rw (drop-append-le 8 bits (replicate 9 true) long, w.1),
          )
    ]

-- bits that nothing was read from begin some n bytes

abbrev pub Begins : ℕ → List Bool → Type 0
Begins n bits =
    (bytes : List ℕ) × AllBytes bytes × (length bytes ≡ n) × (more : List Bool) × (byte_bits bytes ≡ bits ++ more)

zeros : (n : ℕ) → AllBytes (replicate n 0)
unfolding AllBytes
zeros zero = tt
zeros (suc n) = (omega arith, zeros n)

pub bytes_in-begins : (n : ℕ) (bits : List Bool) → bytes_in n bits ≡ None → Begins n bits
unfolding bytes_in AllBytes byte_bits
bytes_in-begins n [] e = (replicate n 0, zeros n, length-replicate n 0, byte_bits (replicate n 0), refl)
bytes_in-begins n (true ∷ bits) e = cc
bytes_in-begins zero (false ∷ bits) e = cc
bytes_in-begins (suc n) (false ∷ bits) e = elim (cases_lt (length bits) 8) [
  | inl short ↦
      let fill : List Bool = replicate (8 - length bits) false in
      let eight : length (bits ++ fill) ≡ 8 = omega (arith, length-append {A = Bool}, length-replicate {A = Bool}) in (
        number_of (bits ++ fill) ∷ replicate n 0,
        (number_of-small (bits ++ fill) eight, zeros n),
        ap suc (length-replicate n 0),
        fill ++ byte_bits (replicate n 0),
        rw (bits_of-number_of (bits ++ fill) eight, append_assoc),
      )
  | inr long ↦
      let f = first_byte n bits long in
      let b = bytes_in-begins n f.2 (option_map-none _ (bytes_in n f.2) (sym f.4 ∙ e)) in
      let is = append_assoc (bits_of 8 f.0) f.2 b.3 in
      (f.0 ∷ b.0, (f.1, b.1), ap suc b.2, b.3, ap (λ l. false ∷ l) (rw b.4 (sym is) ∙ ap (λ l. l ++ b.3) (sym f.3)))
]
