-- The halves of bits as text.
use Rattle.std.proofs.Common.{◌≡◌, ℕ, zero, suc, ◌+◌, ◌-◌, ◌*◌, ◌≤◌, ◌<◌, Bool, true, false, eqb, List, [], ◌∷◌, ◌++◌}
use Rattle.std.proofs.Common.{length, take, drop, get_or, replicate, refl, sym, ap, ◌∙◌, append-nil, length-append}
use Rattle.std.proofs.Common.{arith}
use Rattle.std.specs.Int.{bit_at}
use Rattle.std.specs.List.{flat_map, between}
use Rattle.std.proofs.Math.ListN.{set, drop_of_length-le}
use Rattle.std.proofs.Math.Seq.{take-append-add}
use Rattle.std.proofs.lemmas.List.{append_assoc, take-append-le, length-take-le, take_more_set, take-set-le, take-take}
use Rattle.std.proofs.lemmas.List.{take_at, drop_more}
use Rattle.std.proofs.lemmas.List.Concat.{flat_map-append}
use Rattle.std.proofs.lemmas.Slice.{between_is}
use Rattle.dcc_wire.specs.declared.timing.Timing.{Timing}
use Rattle.dcc_wire.specs.Bodies.{bits_of, body_bits}
use Rattle.dcc_wire.specs.Sending.{durations_of, sent_bits, sent}
use Rattle.dcc_io.specs.Spaced.{behind_space}
use Rattle.dcc_send.specs.Encoded.{spaced_numbers}

-- a text of a fixed size is written at a place, of which a front counts
pub front_written : (a n : ℕ) (xs ys zs : List ℕ) → a ≤ length xs → n ≤ length ys
    → take (a + n) (take a xs ++ (ys ++ zs)) ≡ take a xs ++ take n ys
front_written a n xs ys zs within few =
    let e : length (take a xs) ≡ a = length-take-le a xs within in
    ap (λ k. take (k + n) (take a xs ++ (ys ++ zs))) (sym e)
    ∙ take-append-add (take a xs) (ys ++ zs) n
    ∙ ap (λ s. take a xs ++ s) (take-append-le n ys zs few)

-- the halves of bits as text
abbrev pub text_of : Timing → List Bool → List ℕ
text_of timing bits = flat_map behind_space (durations_of timing bits)

module _ (timing : Timing) where
  durations_of-append : (xs ys : List Bool) → durations_of timing (xs ++ ys) ≡ durations_of timing xs
      ++ durations_of timing ys
  unfolding durations_of
  durations_of-append [] ys = refl
  durations_of-append (true ∷ xs) ys = rw (durations_of-append xs ys)
  durations_of-append (false ∷ xs) ys = rw (durations_of-append xs ys)

  text_of-append : (xs ys : List Bool) → text_of timing (xs ++ ys) ≡ text_of timing xs ++ text_of timing ys
  text_of-append xs ys =
      ap (flat_map behind_space) (durations_of-append xs ys)
      ∙ flat_map-append behind_space (durations_of timing xs) (durations_of timing ys)

  -- one bit before others
  text_of-more : (bit : Bool) (bits : List Bool)
      → text_of timing (bit ∷ bits) ≡ text_of timing (bit ∷ []) ++ text_of timing bits
  text_of-more bit bits = text_of-append (bit ∷ []) bits

  -- what the text of one bit is
  pub one_text : text_of timing (true ∷ []) ≡ behind_space timing.one ++ behind_space timing.one
  unfolding durations_of
  one_text = ap (λ s. behind_space timing.one ++ s) (append-nil (behind_space timing.one))

  pub zero_text : text_of timing (false ∷ []) ≡ behind_space timing.zero_first ++ behind_space timing.zero_second
  unfolding durations_of
  zero_text = ap (λ s. behind_space timing.zero_first ++ s) (append-nil (behind_space timing.zero_second))

  -- a preamble grows by a one
  pub ones_none : [] ≡ text_of timing (replicate 0 true)
  unfolding durations_of
  ones_none = refl

  ones_suc : (n : ℕ) → text_of timing (replicate n true) ++ text_of timing (true ∷ [])
      ≡ text_of timing (replicate (suc n) true)
  ones_suc zero = ap (λ s. s ++ text_of timing (true ∷ [])) (sym ones_none)
  ones_suc (suc n) =
      ap (λ s. s ++ text_of timing (true ∷ [])) (text_of-more true (replicate n true))
      ∙ append_assoc (text_of timing (true ∷ [])) (text_of timing (replicate n true)) (text_of timing (true ∷ []))
      ∙ ap (λ s. text_of timing (true ∷ []) ++ s) (ones_suc n)
      ∙ sym (text_of-more true (replicate (suc n) true))

  pub ones_more : (n : ℕ) → text_of timing (replicate n true) ++ text_of timing (true ∷ [])
      ≡ text_of timing (replicate (n + 1) true)
  ones_more n =
      let e : suc n ≡ n + 1 = omega arith in ones_suc n ∙ ap (λ k. text_of timing (replicate k true)) e

  -- a byte, bit by bit
  pub bit_step : (byte place : ℕ) (front whole : List ℕ) → place < 8
      → front ++ text_of timing (bits_of (8 - place) byte) ≡ whole
      → (front ++ text_of timing (eqb (bit_at byte (7 - place)) 1 ∷ []))
      ++ text_of timing (bits_of (8 - (place + 1)) byte)
      ≡ whole
  unfolding bits_of
  bit_step byte place front whole small e =
      let n = 7 - place in
      let bit = eqb (bit_at byte n) 1 in
      let now : 8 - place ≡ suc n = omega (arith, small) in
      let next : 8 - (place + 1) ≡ n = omega (arith, small) in
      rw next (append_assoc front (text_of timing (bit ∷ [])) (text_of timing (bits_of n byte))
      ∙ ap (λ s. front ++ s) (sym (text_of-more bit (bits_of n byte)))
      ∙ rw now at e)

  pub byte_ends : (byte place : ℕ) (front whole : List ℕ) → 8 ≤ place
      → front ++ text_of timing (bits_of (8 - place) byte) ≡ whole → front ≡ whole
  unfolding bits_of durations_of
  byte_ends byte place front whole past e =
      let none : 8 - place ≡ 0 = omega (arith, past) in sym (append-nil front) ∙ rw none at e

  -- a body, byte by byte
  pub body_begins : (bytes : List ℕ) (n : ℕ) (front : List ℕ) → n ≡ timing.preamble
      → front ≡ text_of timing (replicate n true)
      → front ++ text_of timing (body_bits bytes) ≡ text_of timing (sent_bits bytes timing.preamble)
  unfolding sent_bits
  body_begins bytes n front all e =
      ap (λ s. s ++ text_of timing (body_bits bytes)) (e ∙ ap (λ k. text_of timing (replicate k true)) all)
      ∙ sym (text_of-append (replicate timing.preamble true) (body_bits bytes))

  whole_byte : (byte : ℕ) (rest : List ℕ) → text_of timing (body_bits (byte ∷ rest))
      ≡ text_of timing (false ∷ []) ++ (text_of timing (bits_of 8 byte) ++ text_of timing (body_bits rest))
  unfolding body_bits
  whole_byte byte rest =
      text_of-more false (bits_of 8 byte ++ body_bits rest)
      ∙ ap (λ s. text_of timing (false ∷ []) ++ s) (text_of-append (bits_of 8 byte) (body_bits rest))

  pub byte_step : (bytes : List ℕ) (i byte : ℕ) (front whole : List ℕ) → i < length bytes → byte ≡ get_or bytes i 0
      → front ++ text_of timing (body_bits (drop i bytes)) ≡ whole
      → ((front ++ text_of timing (false ∷ [])) ++ text_of timing (bits_of 8 byte))
      ++ text_of timing (body_bits (drop (i + 1) bytes)) ≡ whole
  byte_step bytes i byte front whole within is e =
      let rest = drop (i + 1) bytes in
      append_assoc (front ++ text_of timing (false ∷ [])) (text_of timing (bits_of 8 byte))
      (text_of timing (body_bits rest))
      ∙ append_assoc front (text_of timing (false ∷ []))
      (text_of timing (bits_of 8 byte) ++ text_of timing (body_bits rest))
      ∙ ap (λ s. front ++ s) (sym (whole_byte byte rest))
      ∙ ap (λ b. front ++ text_of timing (body_bits (b ∷ rest))) is
      ∙ ap (λ d. front ++ text_of timing (body_bits d)) (sym (drop_more bytes i 0 within))
      ∙ e

  pub body_ends : (bytes : List ℕ) (i : ℕ) (front : List ℕ) → length bytes ≤ i
      → front ++ text_of timing (body_bits (drop i bytes)) ≡ text_of timing (sent_bits bytes timing.preamble)
      → front ++ text_of timing (true ∷ []) ≡ flat_map behind_space (sent bytes timing)
  unfolding body_bits sent
  body_ends bytes i front past e = rw (drop_of_length-le bytes past) at e

-- a line begins behind the first space, and a line feed ends it
pub line_of : (line : List ℕ) (len : ℕ) (halves : List ℕ) → len < length line → 0 < length halves
    → take len line ≡ flat_map behind_space halves
    → between 1 (len + 1) (set line len 10) ≡ spaced_numbers halves ++ 10 ∷ []
line_of line len [] within some e = absurd (omega (arith, some))
line_of line len (n ∷ more) within some e =
    between_is (set line len 10) 1 (len + 1) ∙ ap (drop 1) (take_more_set line len 10 within ∙ ap (λ s. s ++ 10 ∷ []) e)

-- if a line begins with the text of a preamble, it still begins with this text after halves and a line feed were added
-- to its end
pub preamble_kept : (timing : Timing) (bytes old new : List ℕ) (p n : ℕ) → p ≤ length old → n ≤ length new
    → take p old ≡ text_of timing (replicate timing.preamble true)
    → take n new ≡ flat_map behind_space (sent bytes timing) → take p (set new n 10) ≡ take p old
unfolding sent sent_bits
preamble_kept timing bytes old new p n within room front all =
    let ones = text_of timing (replicate timing.preamble true) in
    let rest = text_of timing (body_bits bytes) in
    let parts : take n new ≡ ones ++ rest =
    all ∙ text_of-append timing (replicate timing.preamble true) (body_bits bytes) in
    let long : length ones ≡ p = sym (ap length front) ∙ length-take-le p old within in
    let whole : length ones + length rest ≡ n =
    sym (length-append ones rest) ∙ sym (ap length parts) ∙ length-take-le n new room in
    let before : p ≤ n = omega (arith, long, whole) in
    take-set-le p new n 10 before ∙ sym (take-take p n new before) ∙ ap (take p) parts
    ∙ take_at ones rest p long ∙ sym front
