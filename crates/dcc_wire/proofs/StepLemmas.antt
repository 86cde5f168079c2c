-- A half-bit is taken of those that are left.
use Rattle.std.proofs.Common.{◌≡◌, ℕ, suc, zero, ◌+◌, ◌-◌, ◌*◌, ◌/◌, ◌%◌, ◌^◌, ◌<◌, ◌≤◌, Bool, true, false, cond}
use Rattle.std.proofs.Common.{List, [], ◌∷◌, ◌++◌, length, take, get_or, replicate, refl, sym, ap, ◌∙◌, arith, eqb}
use Rattle.dcc_wire.specs.declared.timing.Timing.{Timing}
use Rattle.dcc_wire.specs.Bodies.{body_bits, number_of}
use Rattle.dcc_wire.specs.Frames.{IsFrame}
use Rattle.dcc_wire.specs.HalvesLeft.{ToSend, highest_bits, durations_in, body_left, halves_left}
use Rattle.dcc_wire.specs.Packed.{byte_bits}
use Rattle.dcc_wire.specs.Sending.{durations_of, sent_bits, sent}
use Rattle.dcc_wire.proofs.ByteBits.{body_bits-end, length-body_bits}
use Rattle.dcc_wire.proofs.WordLemmas.{end_packed, highest_of, byte_placed, none_placed, end_placed}

-- the highest bit of a word
abbrev pub highest_bit : ℕ → Bool
highest_bit word = eqb (word / 2 ^ 63) 1

module _ (s : ToSend) where
  abbrev first_half : Bool → ℕ
  first_half bit = cond bit s.one s.zero_first

  abbrev second_half : Bool → ℕ
  second_half bit = cond bit s.one s.zero_second

  durations_of_bits : List Bool → List ℕ
  durations_of_bits bits = durations_in s.one s.zero_first s.zero_second bits

  two_halves : (bit : Bool) (bits : List Bool) → durations_in s.one s.zero_first s.zero_second (bit ∷ bits)
      ≡ first_half bit ∷ second_half bit ∷ durations_in s.one s.zero_first s.zero_second bits
  unfolding durations_in
  two_halves true bits = refl
  two_halves false bits = refl

  pub of_preamble : 0 < s.ones → halves_left s ≡ s.one ∷ halves_left (record s { ones = s.ones - 1 })
  unfolding halves_left body_left
  of_preamble some =
      let e : s.ones ≡ suc (s.ones - 1) = omega (arith, some) in
      ap (λ n. replicate n s.one ++ body_left s) e

  next_bits : (n : ℕ) → highest_bits (suc n) s.bits ≡ highest_bit s.bits ∷ highest_bits n (s.bits * 2 % 2 ^ 64)
  unfolding highest_bits
  next_bits n = refl

  pub none_left : s.ones ≡ 0 → s.body ≡ 0 → halves_left s ≡ []
  unfolding halves_left body_left highest_bits durations_in
  none_left ones body = rw (ones, body) refl

  pub of_first : s.ones ≡ 0 → 0 < s.body → (s.body - 1) % 2 ≡ 1
      → halves_left s ≡ first_half (highest_bit s.bits) ∷ halves_left (record s { body = s.body - 1 })
  unfolding halves_left body_left
  of_first ones some odd =
      let n = (s.body - 1) / 2 in
      let even : s.body % 2 ≡ 0 = omega (arith, odd, some) in
      let now : (s.body + 1) / 2 ≡ suc n = omega (arith, odd, some) in
      let next : (s.body - 1 + 1) / 2 ≡ suc n = omega (arith, odd, some) in
      rw (ones, even, odd, now, next, next_bits n, two_halves) refl

  pub of_second : s.ones ≡ 0 → 0 < s.body → (s.body - 1) % 2 ≡ 0
      → halves_left s
      ≡ second_half (highest_bit s.bits) ∷ halves_left (record s { bits = s.bits * 2 % 2 ^ 64; body = s.body - 1 })
  unfolding halves_left body_left
  of_second ones some even =
      let n = (s.body - 1) / 2 in
      let odd : s.body % 2 ≡ 1 = omega (arith, even, some) in
      let now : (s.body + 1) / 2 ≡ suc n = omega (arith, even, some) in
      let next : (s.body - 1 + 1) / 2 ≡ n = omega (arith, even, some) in
      rw (ones, even, odd, now, next, next_bits n, two_halves) refl

-- both half-bits of a bit

pub two_of_preamble : (s : ToSend) → 2 ≤ s.ones
    → halves_left s ≡ s.one ∷ s.one ∷ halves_left (record s { ones = s.ones - 2 })
unfolding halves_left body_left
two_of_preamble s some =
    let e : s.ones ≡ suc (suc (s.ones - 2)) = omega (arith, some) in ap (λ n. replicate n s.one ++ body_left s) e

pub two_of_body : (s : ToSend) → s.ones ≡ 0 → 2 ≤ s.body → s.body % 2 ≡ 0
    → halves_left s
    ≡ cond (highest_bit s.bits) s.one s.zero_first ∷ cond (highest_bit s.bits) s.one s.zero_second
    ∷ halves_left (record s { bits = s.bits * 2 % 2 ^ 64; body = s.body - 2 })
two_of_body s ones some even =
    let next : ToSend = record s { body = s.body - 1 } in
    let odd : (s.body - 1) % 2 ≡ 1 = omega (arith, some, even) in
    let left : 0 < s.body - 1 = omega (arith, some) in
    let whole : (s.body - 1 - 1) % 2 ≡ 0 = omega (arith, some, even) in
    let two : s.body - 1 - 1 ≡ s.body - 2 = omega arith in
    of_first s ones (omega (arith, some)) odd
    ∙ ap (λ l. cond (highest_bit s.bits) s.one s.zero_first ∷ l) (of_second next ones left whole)
    ∙ ap (λ n. cond (highest_bit s.bits) s.one s.zero_first ∷ cond (highest_bit s.bits) s.one s.zero_second
    ∷ halves_left (record s { bits = s.bits * 2 % 2 ^ 64; body = n })) two

-- the half-bits of a packet, of which none was sent

durations_same : (timing : Timing) (bits : List Bool)
    → durations_in timing.one timing.zero_first timing.zero_second bits ≡ durations_of timing bits
unfolding durations_in durations_of
durations_same timing [] = refl
durations_same timing (true ∷ bits) = rw (durations_same timing bits) refl
durations_same timing (false ∷ bits) = rw (durations_same timing bits) refl

preamble_first : (timing : Timing) (n : ℕ) (bits : List Bool)
    → durations_of timing (replicate n true ++ bits) ≡ replicate (2 * n) timing.one ++ durations_of timing bits
unfolding durations_of
preamble_first timing zero bits = refl
preamble_first timing (suc n) bits =
    let e : 2 * suc n ≡ suc (suc (2 * n)) = omega arith in rw (e, preamble_first timing n bits) refl

module _ (bytes : List ℕ) where
  -- the bits of a body are the highest ones of the word of its bytes
  pub whole_body : length bytes ≤ 6
      → highest_bits (9 * length bytes + 1) ((2 * number_of (byte_bits bytes) + 1) * 2 ^ (63 - 9 * length bytes))
      ≡ body_bits bytes
  whole_body few =
      let n = 63 - 9 * length bytes in
      let bits = body_bits bytes in
      let long : length bits ≡ 9 * length bytes + 1 = length-body_bits bytes in
      let all : length bits + n ≡ 64 = omega (arith, long, few) in
      let number : number_of bits ≡ 2 * number_of (byte_bits bytes) + 1 =
      ap number_of (body_bits-end bytes) ∙ end_packed (byte_bits bytes) in
      ap (λ m. highest_bits (9 * length bytes + 1) (m * 2 ^ n)) (sym number)
      ∙ ap (λ k. highest_bits k (number_of bits * 2 ^ n)) (sym long) ∙ highest_of bits n all

  pub all_left : (timing : Timing) (word : ℕ) → highest_bits (9 * length bytes + 1) word ≡ body_bits bytes
      → halves_left (record {
        bits = word;
        one = timing.one;
        zero_first = timing.zero_first;
        zero_second = timing.zero_second;
        ones = 2 * timing.preamble;
        body = 18 * length bytes + 2;
      }) ≡ sent bytes timing
  unfolding halves_left body_left sent sent_bits
  all_left timing word of_word =
      let even : (18 * length bytes + 2) % 2 ≡ 0 = omega arith in
      let bits : (18 * length bytes + 2 + 1) / 2 ≡ 9 * length bytes + 1 = omega arith in
      rw (even, bits, of_word, durations_same timing (body_bits bytes))
      (sym (preamble_first timing timing.preamble (body_bits bytes)))

-- the word of 3 to 6 bytes
module _ (bytes : List ℕ) (valid : IsFrame bytes) where
  word_at : (n place word : ℕ) → n ≡ length bytes → place ≡ 2 ^ (63 - 9 * n)
      → word ≡ number_of (byte_bits (take n bytes)) * (2 * place)
      → highest_bits (9 * length bytes + 1) (word + place) ≡ body_bits bytes
  word_at n place word all at e =
      ap (highest_bits (9 * length bytes + 1)) (
      end_placed bytes n word all place e
      ∙ ap (λ p. (2 * number_of (byte_bits bytes) + 1) * p) (at ∙ ap (λ k. 2 ^ (63 - 9 * k)) all)
      ) ∙ whole_body bytes valid.most

  module _ (a b c : ℕ) (is_a : a ≡ get_or bytes 0 0) (is_b : b ≡ get_or bytes 1 0) (is_c : c ≡ get_or bytes 2 0) where
    abbrev word_three : ℕ
    word_three = a * 2 ^ 55 % 2 ^ 64 + b * 2 ^ 46 % 2 ^ 64 + c * 2 ^ 37 % 2 ^ 64

    three : word_three ≡ number_of (byte_bits (take 3 bytes)) * 2 ^ 37
    three =
        let long : 3 ≤ length bytes = valid.least in
        let one = byte_placed bytes 0 0 (omega (arith, long)) (valid.each 0) (2 ^ 55) (none_placed bytes (2 ^ 64)) in
        let two = byte_placed bytes 1 _ (omega (arith, long)) (valid.each 1) (2 ^ 46) one in
        let all = byte_placed bytes 2 _ (omega (arith, long)) (valid.each 2) (2 ^ 37) two in
        let small_a : a < 256 = omega (arith, is_a, valid.each 0) in
        let small_b : b < 256 = omega (arith, is_b, valid.each 1) in
        let small_c : c < 256 = omega (arith, is_c, valid.each 2) in
        omega (arith, all, is_a, is_b, is_c, small_a, small_b, small_c)

    pub word_of_three : length bytes ≡ 3 → highest_bits (9 * length bytes + 1) (word_three + 2 ^ 36) ≡ body_bits bytes
    word_of_three all = word_at 3 (2 ^ 36) word_three (sym all) refl three

    module _ (d : ℕ) (is_d : d ≡ get_or bytes 3 0) where
      abbrev word_four : ℕ
      word_four = word_three + d * 2 ^ 28 % 2 ^ 64

      small_d : d < 256
      small_d = omega (arith, is_d, valid.each 3)

      four : 4 ≤ length bytes → word_four ≡ number_of (byte_bits (take 4 bytes)) * 2 ^ 28
      four long =
          let more = byte_placed bytes 3 word_three (omega (arith, long)) (valid.each 3) (2 ^ 28) three in
          omega (arith, more, is_d, small_d)

      pub word_of_four : length bytes ≡ 4 → highest_bits (9 * length bytes + 1) (word_four + 2 ^ 27) ≡ body_bits bytes
      word_of_four all = word_at 4 (2 ^ 27) word_four (sym all) refl (four (omega (arith, all)))

      module _ (e : ℕ) (is_e : e ≡ get_or bytes 4 0) where
        abbrev word_five : ℕ
        word_five = word_four + e * 2 ^ 19 % 2 ^ 64

        small_e : e < 256
        small_e = omega (arith, is_e, valid.each 4)

        five : 5 ≤ length bytes → word_five ≡ number_of (byte_bits (take 5 bytes)) * 2 ^ 19
        five long =
            let more = byte_placed bytes 4 word_four (omega (arith, long)) (valid.each 4) (2 ^ 19)
            (four (omega (arith, long))) in
            omega (arith, more, is_e, small_e)

        pub word_of_five : length bytes ≡ 5 → highest_bits (9 * length bytes + 1) (word_five + 2 ^ 18) ≡ body_bits bytes
        word_of_five all = word_at 5 (2 ^ 18) word_five (sym all) refl (five (omega (arith, all)))

        module _ (f : ℕ) (is_f : f ≡ get_or bytes 5 0) where
          abbrev word_six : ℕ
          word_six = word_five + f * 2 ^ 10 % 2 ^ 64

          small_f : f < 256
          small_f = omega (arith, is_f, valid.each 5)

          six : 6 ≤ length bytes → word_six ≡ number_of (byte_bits (take 6 bytes)) * 2 ^ 10
          six long =
              let more = byte_placed bytes 5 word_five (omega (arith, long)) (valid.each 5) (2 ^ 10)
              (five (omega (arith, long))) in
              omega (arith, more, is_f, small_f)

          pub word_of_six : length bytes ≡ 6 → highest_bits (9 * length bytes + 1) (word_six + 2 ^ 9) ≡ body_bits bytes
          word_of_six all = word_at 6 (2 ^ 9) word_six (sym all) refl (six (omega (arith, all)))
