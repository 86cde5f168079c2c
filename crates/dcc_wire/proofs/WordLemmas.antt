-- The bits of a body as the highest bits of a word.
use Rattle.std.proofs.Common.{◌≡◌, ℕ, suc, ◌+◌, ◌*◌, ◌/◌, ◌%◌, ◌^◌, ◌<◌, Bool, true, false, cond, eqb}
use Rattle.std.proofs.Common.{List, [], ◌∷◌, ◌++◌, length, take, get_or, refl, sym, ap, ◌∙◌, arith, append-nil}
use Rattle.std.specs.List.{fold}
use Rattle.std.proofs.Math.Nat.{pow-suc}
use Rattle.std.proofs.lemmas.List.{take_more, take_all}
use Rattle.std.proofs.lemmas.List.Sums.{fold-append}
use Rattle.std.proofs.lemmas.Nat.{pow-add, shl_below}
use Rattle.dcc_wire.specs.Bodies.{bits_of, number_of}
use Rattle.dcc_wire.specs.HalvesLeft.{highest_bits}
use Rattle.dcc_wire.specs.Packed.{byte_bits}
use Rattle.dcc_wire.proofs.ByteBits.{number_of-bits_of, byte_bits-append, length-bits_of}

abbrev shifted : ℕ → List Bool → ℕ
shifted s bits = fold (λ a bit. 2 * a + cond bit 1 0) s bits

-- bits behind a number
shifted_in : (s : ℕ) (bits : List Bool) → shifted s bits ≡ s * 2 ^ length bits + shifted 0 bits
shifted_in s [] = omega arith
shifted_in s (bit ∷ bits) =
    let p = 2 ^ length bits in
    let ih = shifted_in (2 * s + cond bit 1 0) bits in
    let jh = shifted_in (2 * 0 + cond bit 1 0) bits in
    rw (pow-suc 2 (length bits)) (grind (arith, ih, jh))

pub small_number : (bits : List Bool) → number_of bits < 2 ^ length bits
unfolding number_of
small_number [] = omega arith
small_number (true ∷ bits) =
    let n = shifted_in (2 * 0 + 1) bits in
    rw (pow-suc 2 (length bits)) (omega (arith, small_number bits, n))
small_number (false ∷ bits) = rw (pow-suc 2 (length bits)) (omega (arith, small_number bits))

-- a byte behind others
pub byte_packed : (bytes : List ℕ) (byte : ℕ) → byte < 256
    → number_of (byte_bits (bytes ++ byte ∷ [])) ≡ 512 * number_of (byte_bits bytes) + byte
unfolding number_of byte_bits
byte_packed bytes byte small =
    let s = number_of (byte_bits bytes) in
    let eight : length (bits_of 8 byte) ≡ 8 = length-bits_of 8 byte in
    let spelled : shifted 0 (bits_of 8 byte) ≡ byte = number_of-bits_of byte small in
    let pushed = shifted_in (2 * s + 0) (bits_of 8 byte) in
    let sum : (2 * s + 0) * 2 ^ 8 + byte ≡ 512 * s + byte = omega arith in
    ap number_of (byte_bits-append bytes (byte ∷ []))
    ∙ fold-append (λ a bit. 2 * a + cond bit 1 0) 0 (byte_bits bytes) (byte_bits (byte ∷ []))
    ∙ ap (shifted (2 * s + 0)) (append-nil (bits_of 8 byte)) ∙ pushed ∙ rw (eight, spelled) sum

-- a one behind bits
pub end_packed : (bits : List Bool) → number_of (bits ++ true ∷ []) ≡ 2 * number_of bits + 1
unfolding number_of
end_packed bits = fold-append (λ a bit. 2 * a + cond bit 1 0) 0 bits (true ∷ [])

-- bits before which a bit stands

head : (bit : Bool) (bits : List Bool) → number_of (bit ∷ bits) ≡ cond bit 1 0 * 2 ^ length bits + number_of bits
unfolding number_of
head true bits = shifted_in 1 bits
head false bits = shifted_in 0 bits

spread : (b p m q : ℕ) → (b * p + m) * q ≡ b * (p * q) + m * q
spread b p m q = grind arith

first_bit : (bit : Bool) (bits : List Bool) (n : ℕ) → length bits + n ≡ 63
    → number_of (bit ∷ bits) * 2 ^ n ≡ cond bit 1 0 * 2 ^ 63 + number_of bits * 2 ^ n
first_bit bit bits n e =
    let whole : 2 ^ length bits * 2 ^ n ≡ 2 ^ 63 = sym (pow-add 2 (length bits) n) ∙ ap (λ k. 2 ^ k) e in
    ap (λ m. m * 2 ^ n) (head bit bits) ∙ spread (cond bit 1 0) (2 ^ length bits) (number_of bits) (2 ^ n)
    ∙ ap (λ p. cond bit 1 0 * p + number_of bits * 2 ^ n) whole

-- a word by its highest bit and what is behind it

highest : (bit : Bool) (x : ℕ) → x < 2 ^ 63 → eqb ((cond bit 1 0 * 2 ^ 63 + x) / 2 ^ 63) 1 ≡ bit
highest true x small = let one : (1 * 2 ^ 63 + x) / 2 ^ 63 ≡ 1 = omega (arith, small) in rw one refl
highest false x small = let none : (0 * 2 ^ 63 + x) / 2 ^ 63 ≡ 0 = omega (arith, small) in rw none refl

behind_highest : (bit : Bool) (x : ℕ) → x < 2 ^ 63 → (cond bit 1 0 * 2 ^ 63 + x) * 2 % 2 ^ 64 ≡ x * 2
behind_highest true x small = omega (arith, small)
behind_highest false x small = omega (arith, small)

doubled : (a b : ℕ) → a * b * 2 ≡ a * (b * 2)
doubled a b = grind arith

-- bits are the highest ones of a word in which nothing follows them
pub highest_of : (bits : List Bool) (n : ℕ) → length bits + n ≡ 64
    → highest_bits (length bits) (number_of bits * 2 ^ n) ≡ bits
unfolding highest_bits
highest_of [] n e = refl
highest_of (bit ∷ bits) n e =
    let all : length bits + n ≡ 63 = omega (arith, e) in
    let x = number_of bits * 2 ^ n in
    let small : x < 2 ^ 63 = rw all at (shl_below (number_of bits) (length bits) n (small_number bits)) in
    let next : x * 2 ≡ number_of bits * 2 ^ suc n =
    doubled (number_of bits) (2 ^ n) ∙ ap (λ p. number_of bits * p) (sym (pow-suc 2 n)) in
    let behind : length bits + suc n ≡ 64 = omega (arith, e) in
    ap (λ w. eqb (w / 2 ^ 63) 1 ∷ highest_bits (length bits) (w * 2 % 2 ^ 64)) (first_bit bit bits n all)
    ∙ ap (λ b. b ∷ highest_bits (length bits) ((cond bit 1 0 * 2 ^ 63 + x) * 2 % 2 ^ 64)) (highest bit x small)
    ∙ ap (λ w. bit ∷ highest_bits (length bits) w) (behind_highest bit x small ∙ next)
    ∙ ap (λ l. bit ∷ l) (highest_of bits (suc n) behind)

-- a front of bytes at a place of a word, and a byte behind it
pub byte_placed : (bytes : List ℕ) (n x : ℕ) → n < length bytes → get_or bytes n 0 < 256
    → (place : ℕ) → x ≡ number_of (byte_bits (take n bytes)) * (512 * place)
    → x + get_or bytes n 0 * place ≡ number_of (byte_bits (take (n + 1) bytes)) * place
byte_placed bytes n x within small place e =
    let more = ap (λ l. number_of (byte_bits l)) (take_more bytes n 0 within)
    ∙ byte_packed (take n bytes) (get_or bytes n 0) small in
    rw more (grind (arith, e))

pub none_placed : (bytes : List ℕ) (place : ℕ) → 0 ≡ number_of (byte_bits (take 0 bytes)) * place
unfolding number_of byte_bits
none_placed bytes place = omega arith

-- the end bit behind all bytes
pub end_placed : (bytes : List ℕ) (n x : ℕ) → n ≡ length bytes → (place : ℕ)
    → x ≡ number_of (byte_bits (take n bytes)) * (2 * place)
    → x + place ≡ (2 * number_of (byte_bits bytes) + 1) * place
end_placed bytes n x all place e =
    let whole = ap (λ l. number_of (byte_bits l)) (take_all n bytes (omega (arith, all))) in
    rw (← whole) (grind (arith, e))
