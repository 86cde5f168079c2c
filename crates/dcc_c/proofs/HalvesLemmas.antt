-- The preamble of a timing that may be sent, and the half-bits of a frame that is written bit by bit.
use Rattle.std.proofs.Common.{◌≡◌, ◌+◌, ◌-◌, ◌<◌, ◌≤◌, ℕ, zero, suc, Bool, true, false, eqb, List, [], ◌∷◌, ◌++◌}
use Rattle.std.proofs.Common.{length, drop, get_or, refl, sym, ap, ◌∙◌, append_assoc, arith}
use Rattle.std.specs.Prelude.{None}
use Rattle.std.specs.Int.{bit_at}
use Rattle.std.proofs.Math.ListN.{drop_of_length-le}
use Rattle.std.proofs.lemmas.List.{drop-drop, drop_more}
use Rattle.dcc_wire.specs.declared.timing.Timing.{Timing}
use Rattle.dcc_wire.specs.Bodies.{bits_of, body_bits}
use Rattle.dcc_wire.specs.Sending.{durations_of}
use Rattle.dcc_wire.specs.Timings.{is_preamble, timing_fault}
use Rattle.dcc_wire.proofs.SendingLemmas.{durations_of-append}

sent_by : (preamble : ℕ) (t : Bool) → is_preamble preamble ≡ t → timing_fault 58 100 100 preamble ≡ None → t ≡ true
sent_by preamble true e h = refl
sent_by preamble false e h = let some = rw e at h in absurd (cc)

pub sent_with : (preamble : ℕ) → timing_fault 58 100 100 preamble ≡ None → is_preamble preamble ≡ true
sent_with preamble h = sent_by preamble (is_preamble preamble) refl h

-- `front`, then the half-bits of the bits `xs`, then the half-bits of the bits `ys`
pub durations_behind : (timing : Timing) (front : List ℕ) (xs ys : List Bool)
    → (front ++ durations_of timing xs) ++ durations_of timing ys ≡ front ++ durations_of timing (xs ++ ys)
durations_behind timing front xs ys =
    append_assoc front (durations_of timing xs) (durations_of timing ys)
    ∙ ap (λ s. front ++ s) (sym (durations_of-append timing xs ys))

-- if `xs` and `ys` are equal after their first `n` numbers, they are equal after their first `m` numbers
pub same_behind : (xs ys : List ℕ) (n m : ℕ) → n ≤ m → drop n xs ≡ drop n ys → drop m xs ≡ drop m ys
same_behind xs ys n m within same =
    let k = m - n in
    let e : m ≡ n + k = omega (arith, within) in
    ap (λ j. drop j xs) e ∙ sym (drop-drop k n xs) ∙ ap (drop k) same ∙ drop-drop k n ys ∙ ap (λ j. drop j ys) (sym e)

-- the bit `n - 1` of `byte` is the first of its lowest `n` bits
pub highest_first : (n byte : ℕ) → 0 < n → eqb (bit_at byte (n - 1)) 1 ∷ bits_of (n - 1) byte ≡ bits_of n byte
unfolding bits_of
highest_first zero byte some = absurd (omega (arith, some))
highest_first (suc n) byte some = let e : suc n - 1 ≡ n = omega arith in rw e refl

-- the body of `bytes` from `i` on begins with a zero and the bits of the byte at `i`
pub byte_first : (bytes : List ℕ) (i : ℕ) → i < length bytes
    → (false ∷ bits_of 8 (get_or bytes i 0)) ++ body_bits (drop (i + 1) bytes) ≡ body_bits (drop i bytes)
unfolding body_bits
byte_first bytes i within = sym (ap body_bits (drop_more bytes i 0 within))

-- the body of no bytes is the end bit
pub end_bit : (bytes : List ℕ) (i : ℕ) → length bytes ≤ i → true ∷ [] ≡ body_bits (drop i bytes)
unfolding body_bits
end_bit bytes i past = sym (ap body_bits (drop_of_length-le bytes past))
