-- The numbers that are on stand in one line, ascending, and are read again as the bits of a number.
use Rattle.std.proofs.Common.{zero, suc, ◌≡◌, ℕ, ◌+◌, ◌-◌, ◌*◌, ◌/◌, ◌%◌, ◌^◌, ◌<◌, ◌≤◌, Bool, true, false, List, []}
use Rattle.std.proofs.Common.{◌∷◌, ◌++◌, length, codes, Ok, if◌then◌else◌, inl, inr, refl, ap, ◌∙◌, arith}
use Rattle.std.proofs.Common.{add-one, zero-add, length-append}
use native.Mathlib.Nat.{pow-succ'}
use Rattle.std.specs.Fmt.{decimal}
use Rattle.std.specs.List.{AllByRecursion}
use Rattle.std.proofs.lemmas.Bool.{le-ltb, cases_lt, eqb-true, eqb-false}
use Rattle.std.proofs.lemmas.Fmt.{length-decimal-le}
use Rattle.std.proofs.lemmas.Nat.Bits.{bit_at_lowest, bit_at-lt, bit_at_above, bit_at_cat_low}
use Rattle.std.proofs.lemmas.Nat.Bits.{bit_at_cat_high}
use Rattle.std.proofs.lemmas.Slice.Eq.{bytes_eq-Decides}
use Rattle.dcc_packet.specs.Bits.{is_one}
use Rattle.dcc_packet.specs.Fields.{IsToken}
use Rattle.dcc_packet.specs.Words.{Word}
use Rattle.dcc_packet.specs.Written.{spaced_words}
use Rattle.dcc_packet.proofs.Tokens.{decimal_token, keyword_token}
use Rattle.dcc_packet.proofs.UpTo.{output_back}
use Rattle.dcc_packet.proofs.WordsBack.{small_number-decimal}
use Rattle.dcc_regs.specs.Loco.{holds_one}
use Rattle.dcc_regs.specs.Result.{RegisterMap}
use Rattle.dcc_saved.specs.declared.decoder_line.Numbered.{Numbered}
use Rattle.dcc_saved.specs.declared.decoder_line.Numbered.TheVariants as kinds
use Rattle.dcc_saved.specs.Numbered.{name_of, end_of, register_of}
use Rattle.dcc_saved.specs.DecoderLines.{number_word_of, numbers_from, numbers_of, numbers_on, numbers_line}
use Rattle.dcc_saved.specs.FleetText.{bits_on, numbers_held}
use Rattle.dcc_saved.proofs.LinesBack.{IsLineBack}
use Rattle.dcc_saved.proofs.RowsLemmas.{bits_fit}

-- the keyword of a kind, and how many numbers there can be
kind_is : (kind : Numbered) → IsToken (name_of kind) × (end_of kind ≤ 128)
kind_is kinds.Function = (keyword_token (codes "on") refl, omega arith)
kind_is kinds.State = (keyword_token (codes "states") refl, omega arith)
kind_is kinds.Out = (keyword_token (codes "out") refl, omega arith)

-- two digits up to 99, and three behind that
digits : (n : ℕ) → n < 128 → length (decimal n) + (n - 100) ≤ 2 + (suc n - 100)
digits n few = elim (cases_lt n 100) [
  | inl small ↦ omega (arith, length-decimal-le 2 n (omega arith) (omega (arith, small)) (omega (arith, small)))
  | inr ge ↦ omega (arith, ge, length-decimal-le 3 n (omega arith) (omega (arith, few)) (omega (arith, few)))
]

module _ (kind : Numbered) where
  -- a number that is on is read: there is no state 0
  number_back : (n : ℕ) → n < end_of kind → (kind ≡ kinds.State → 0 < n) → number_word_of kind (decimal n) ≡ Ok n
  number_back n within some = go kind within some
    where
      go : (k : Numbered) → n < end_of k → (k ≡ kinds.State → 0 < n) → number_word_of k (decimal n) ≡ Ok n
      go kinds.Function within some =
          rw (small_number-decimal n (omega (arith, within)), le-ltb 68 n (omega (arith, within))) refl
      go kinds.State within some =
          rw (
            small_number-decimal n (omega (arith, within)),
            le-ltb n 1 (omega (arith, some refl)),
            le-ltb 127 n (omega (arith, within)),
          ) refl
      go kinds.Out within some =
          rw (small_number-decimal n (omega (arith, within)))
          (rw (output_back (record { number = n; in_range = omega (arith, within) })) refl)

  -- these words from a number on are read as these bits
  record AreRead (n bits : ℕ) (words : List Word) : Type 0 where
    tokens : AllByRecursion IsToken words
    short : length (spaced_words words) + 3 * n + (n - 100) ≤ 412
    reads : (least : ℕ) → least ≤ n → numbers_from kind least words ≡ Ok (2 ^ n * bits)

  numbers_back : (more n bits : ℕ) → n + more ≡ end_of kind → bits < 2 ^ more
      → (kind ≡ kinds.State → n ≡ 0 → bits % 2 ≡ 0) → AreRead n bits (numbers_on n more bits)
  unfolding numbers_on
  numbers_back zero n bits last fits even = record {
    tokens = tt;
    short = omega (arith, last, (kind_is kind).1);
    reads = λ least h. let none : bits ≡ 0 = omega (arith, fits) in rw none (ap Ok (omega arith));
  }
  numbers_back (suc more) n bits last fits even =
      let half : bits / 2 < 2 ^ more = omega (arith, fits, pow-succ' 2 more) in
      go (is_one bits 0) refl
      (numbers_back more (n + 1) (bits / 2) (omega (arith, last)) half (λ state none. absurd (omega (arith, none))))
    where
      few : n < 128
      few = omega (arith, last, (kind_is kind).1)

      words : List Word
      words = numbers_on (n + 1) more (bits / 2)

      back : (kind ≡ kinds.State → 0 < n) → number_word_of kind (decimal n) ≡ Ok n
      back some = number_back n (omega (arith, last)) some

      go : (b : Bool) → is_one bits 0 ≡ b → AreRead (n + 1) (bits / 2) words
          → AreRead n bits ((if b then decimal n ∷ [] else []) ++ words)
      go true is later =
          let odd : bits ≡ 1 + 2 * (bits / 2) = omega (arith, eqb-true _ 1 is, bit_at_lowest bits) in
          let some : kind ≡ kinds.State → 0 < n = λ state. elim (cases_lt 0 n) [
            | inl some ↦ some
            | inr none ↦ absurd (omega (arith, odd, even state (omega (arith, none))))
          ] in record {
            tokens = (decimal_token n (omega (arith, few)), later.tokens);
            short = omega (arith, later.short, digits n few, length-append (decimal n) (spaced_words words));
            reads = λ least h.
                rw (back some, le-ltb n least h, later.reads (n + 1) (omega arith), add-one, pow-succ' 2 n)
                (ap Ok (omega (arith, ap (λ (x : ℕ). 2 ^ n * x) odd)));
          }
      go false is later =
          let twice : bits ≡ 2 * (bits / 2) =
          omega (arith, eqb-false _ 1 is, bit_at_lowest bits, bit_at-lt bits 0) in record {
            tokens = later.tokens;
            short = omega (arith, later.short);
            reads = λ least h.
                rw (later.reads least (omega (arith, h)), add-one, pow-succ' 2 n)
                (ap Ok (omega (arith, ap (λ (x : ℕ). 2 ^ n * x) twice)));
          }

-- the line that tells which are on
pub numbers_line_back : (kind : Numbered) → IsLineBack (numbers_line kind)
unfolding numbers_of
numbers_line_back kind bits fits =
    let token = (kind_is kind).0 in
    let all = numbers_back kind (end_of kind) 0 bits (zero-add _) fits.0 (λ state none. fits.1 state) in
    let same = (bytes_eq-Decides (name_of kind) (name_of kind)).1 refl in
    let written : List Word = numbers_on 0 (end_of kind) bits in
    record {
      says = rw (same, all.reads 0 (omega arith)) (ap Ok (omega arith));
      tokens = (token, all.tokens);
      some = omega arith;
      short = omega (arith, all.short, token.short, length-append (name_of kind) (spaced_words written));
    }

-- the bit above those of a number, and those below it
top_bit : (b : Bool) (n v : ℕ) → v < 2 ^ n → is_one ((if b then 2 ^ n else 0) + v) n ≡ b
top_bit true n v fits =
    let is : 2 ^ n + v ≡ 1 * 2 ^ n + v = omega arith in
    let none : n - n ≡ 0 = omega arith in
    rw (is, bit_at_cat_high 1 n v n fits (omega arith), none) refl
top_bit false n v fits = rw (zero-add v, bit_at_above v n n fits (omega arith)) refl

below_top : (b : Bool) (n v j : ℕ) → j < n → is_one ((if b then 2 ^ n else 0) + v) j ≡ is_one v j
below_top true n v j within = let is : 2 ^ n + v ≡ 1 * 2 ^ n + v =
    omega arith in rw (is, bit_at_cat_low 1 n v j within) refl
below_top false n v j within = rw (zero-add v) refl

-- the bits of those that are on
bits_are : (on : ℕ → Bool) (n j : ℕ) → j < n → is_one (bits_on on n) j ≡ on j
unfolding bits_on
bits_are on zero j within = absurd (omega (arith, within))
bits_are on (suc n) j within = elim (cases_lt j n) [
  | inl less ↦ below_top (on n) n (bits_on on n) j less ∙ bits_are on n j less
  | inr last ↦ let is : j ≡ n = omega (arith, within, last) in rw is (top_bit (on n) n (bits_on on n) (bits_fit on n))
]

-- the registers of a kind that are on
abbrev pub on_of : Numbered → RegisterMap → ℕ → Bool
on_of kind m n = holds_one (m (register_of kind n))

pub held_are : (kind : Numbered) (m : RegisterMap) (n : ℕ) → n < end_of kind
    → is_one (numbers_held kind m) n ≡ on_of kind m n
held_are kind m n within = bits_are (on_of kind m) (end_of kind) n within

-- what stands in the line: there is no state 0
pub numbers_fit : (kind : Numbered) (m : RegisterMap) → (kind ≡ kinds.State → on_of kind m 0 ≡ false)
    → (numbers_line kind).Fits (numbers_held kind m)
numbers_fit kind m none =
    let bits : ℕ = numbers_held kind m in (
      bits_fit (on_of kind m) (end_of kind),
      λ is.
          let off : is_one bits 0 ≡ false = held_are kind m 0 (rw is (omega arith)) ∙ none is in
          omega (arith, eqb-false _ 1 off, bit_at_lowest bits, bit_at-lt bits 0),
    )
