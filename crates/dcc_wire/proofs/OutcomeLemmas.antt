-- Outcomes of longer lists.
use Rattle.std.proofs.Common.{◌≡◌, ℕ, suc, ◌+◌, ◌-◌, ◌*◌, ◌<◌, ◌≤◌, inl, inr, Bool, true, false, List, [], ◌∷◌, ◌++◌}
use Rattle.std.proofs.Common.{length, length-append, drop, Some, None, refl, sym, ap, ◌∙◌, arith, Option, append_assoc}
use Rattle.std.proofs.Common.{append-nil, subst, ◌≢◌, ◌⊎◌}
use Rattle.std.specs.Option.{option_map, option_or}
use Rattle.std.proofs.Math.ListN.{drop_of_length-le}
use Rattle.std.proofs.Math.Seq.{drop-append_seam}
use Rattle.dcc_wire.specs.declared.half.Half.{Half}
use Rattle.dcc_wire.specs.declared.half.Half.TheVariants.{One, Zero, Bad}
use Rattle.dcc_wire.specs.declared.seen.Fault.{Fault}
use Rattle.dcc_wire.specs.declared.seen.Fault.TheVariants.{BadHalf, SplitBit, TooLong}
use Rattle.dcc_wire.specs.declared.seen.Seen.{Seen}
use Rattle.dcc_wire.specs.declared.seen.Seen.TheVariants.{Nothing, Refused}
use Rattle.dcc_wire.specs.Bodies.{halves_of}
use Rattle.dcc_wire.specs.Framing.{ones_before, ones_at_end}
use Rattle.dcc_wire.specs.Inner.Steps.{answer_of}
use Rattle.dcc_wire.specs.Outcomes.{bytes_in, ones_left, bits_in, body_outcome, by_halves}
use Rattle.dcc_wire.specs.Outcomes.{outcome_of}
use Rattle.dcc_wire.specs.Inner.OutcomeParts.{behind_bits, by_bits}
use Rattle.dcc_wire.proofs.BitLemmas.{halves_read, halves_split, length-halves_of, half_of, halves_of-bit}
use Rattle.dcc_wire.proofs.ByteBits.{cases_Option, some_same, bytes_in-more, bytes_in-long, next_bit}

pub behind_bits_is : (halves : List Half) → behind_bits halves ≡ drop (2 * length (bits_in halves)) halves
unfolding bits_in behind_bits
behind_bits_is (One ∷ One ∷ halves) =
    let count : 2 * length (true ∷ bits_in halves) ≡ suc (suc (2 * length (bits_in halves))) = omega arith in
    behind_bits_is halves ∙ rw count refl
behind_bits_is (Zero ∷ Zero ∷ halves) =
    let count : 2 * length (false ∷ bits_in halves) ≡ suc (suc (2 * length (bits_in halves))) = omega arith in
    behind_bits_is halves ∙ rw count refl
behind_bits_is _ = refl

pub outcome_parts : (halves : List Half)
    → outcome_of halves ≡ option_or (option_map by_bits (bytes_in 6 (bits_in halves)))
    (by_halves (2 * length (bits_in halves)) (behind_bits halves))
unfolding outcome_of by_bits
outcome_parts halves = rw (behind_bits_is halves) refl

-- halves that make no bit, behind whole bits that close nothing
pub outcome_behind : (bits : List Bool) (tail : List Half) → bytes_in 6 bits ≡ None → bits_in tail ≡ []
    → behind_bits tail ≡ tail → outcome_of (halves_of bits ++ tail) ≡ by_halves (2 * length bits) tail
outcome_behind bits tail none e f =
    let w = halves_read bits tail in
    outcome_parts (halves_of bits ++ tail) ∙ rw (w.0, w.1, e, f, append-nil bits, none)

-- whole bits alone
pub outcome_of-bits : (bits : List Bool) → outcome_of (halves_of bits) ≡ option_map by_bits (bytes_in 6 bits)
unfolding bits_in behind_bits by_halves
outcome_of-bits bits =
    let w = halves_read bits [] in
    ap outcome_of (sym (append-nil (halves_of bits))) ∙ outcome_parts (halves_of bits ++ [])
    ∙ rw (w.0, w.1, append-nil bits)
    (elim (cases_Option (bytes_in 6 bits)) [ inl none ↦ rw none | inr some ↦ rw some.1 ])

-- an outcome stays what it is

by_halves-more : (n : ℕ) (tail more : List Half) (v : ℕ × Seen) → bits_in tail ≡ [] → by_halves n tail ≡ Some v
    → (bits_in (tail ++ more) ≡ []) × (by_halves n (behind_bits (tail ++ more)) ≡ Some v)
unfolding bits_in behind_bits by_halves
by_halves-more n tail more v q e = grind arith

pub outcome_of-more : (halves more : List Half) (v : ℕ × Seen) → outcome_of halves ≡ Some v
    → outcome_of (halves ++ more) ≡ Some v
outcome_of-more halves more v e =
    let here = sym (outcome_parts halves) ∙ e in
    let bits = bits_in halves in
    let tail = behind_bits halves in
    let whole : halves ++ more ≡ halves_of bits ++ (tail ++ more) =
    ap (λ l. l ++ more) (sym (halves_split halves).0) ∙ append_assoc (halves_of bits) tail more in
    let read = halves_read bits (tail ++ more) in
    ap outcome_of whole ∙ outcome_parts (halves_of bits ++ (tail ++ more))
    ∙ rw (read.0, read.1) (elim (cases_Option (bytes_in 6 bits)) [
      | inl none ↦
          let w = by_halves-more (2 * length bits) tail more v (halves_split halves).1 (rw none at here) in
          rw (w.0, append-nil bits, none) w.1
      | inr some ↦ rw (bytes_in-more 6 bits (bits_in (tail ++ more)) some.0 some.1) (rw some.1 at here)
    ])

-- one half more on an unfinished body

pub record Ends (halves : List Half) (half : Half) : Type 0 where
  pub outcome : Seen
  pub is : outcome_of (halves ++ half ∷ []) ≡ Some (length halves + 1, outcome)
  pub something : outcome ≢ Nothing
  pub left : ones_at_end (drop (length halves + 1 - ones_left outcome) (halves ++ half ∷ [])) ≡ ones_left outcome

abbrev pub Grows : List Half → Half → Type 0
Grows halves half = (outcome_of (halves ++ half ∷ []) ≡ None) ⊎ Ends halves half

nothing_left : (halves : List Half) (half : Half) (outcome : Seen) → ones_left outcome ≡ 0
    → ones_at_end (drop (length halves + 1 - ones_left outcome) (halves ++ half ∷ [])) ≡ ones_left outcome
unfolding ones_at_end ones_before
nothing_left halves half outcome e =
    let all = length-append halves (half ∷ []) in
    rw (e, drop_of_length-le (halves ++ half ∷ []) {i = length halves + 1 - 0} (omega (arith, all)))

refusal : (bits : List Bool) (tail : List Half) (half : Half) (fault : Fault)
    → outcome_of (halves_of bits ++ (tail ++ half ∷ [])) ≡ Some
    (2 * length bits + length (tail ++ half ∷ []), Refused fault) → ones_left (Refused fault) ≡ 0
    → Grows (halves_of bits ++ tail) half
refusal bits tail half fault e none =
    let count : 2 * length bits + length (tail ++ half ∷ []) ≡ length (halves_of bits ++ tail) + 1 =
    omega (arith, length-append (halves_of bits) tail, length-append tail (half ∷ []), length-halves_of bits) in
    inr (record {
      outcome = Refused fault;
      is = rw (append_assoc, e, count);
      something = λ nothing. cc;
      left = nothing_left (halves_of bits ++ tail) half (Refused fault) none;
    })

pub ones_left-closed : (bytes : List ℕ) → ones_left (body_outcome bytes) ≡ 2
unfolding body_outcome ones_left
ones_left-closed bytes = grind arith

pub something_closed : (bytes : List ℕ) → body_outcome bytes ≢ Nothing
unfolding body_outcome
something_closed bytes e = grind arith

-- One more bit extends the body, or ends it. The end is an end bit, whose halves count for the next preamble, or a zero
-- after six bytes.

closed_left : (bits : List Bool) (bit : Bool) (bytes : List ℕ)
    → let halves = halves_of bits ++ half_of bit ∷ [] in
    let outcome = (by_bits (bytes, bit)).1 in
    ones_at_end (drop (length halves + 1 - ones_left outcome) (halves ++ half_of bit ∷ [])) ≡ ones_left outcome
unfolding by_bits half_of ones_at_end ones_before ones_left
closed_left bits false bytes = nothing_left (halves_of bits ++ Zero ∷ []) Zero (Refused TooLong) refl
closed_left bits true bytes =
    let before : length (halves_of bits ++ One ∷ []) + 1 - 2 ≡ length (halves_of bits) =
    omega (arith, length-append (halves_of bits) (One ∷ [])) in
    rw (ones_left-closed bytes, before, append_assoc (halves_of bits) (One ∷ []) (One ∷ []), drop-append_seam)

pub closed_something : (bit : Bool) (bytes : List ℕ) → (by_bits (bytes, bit)).1 ≢ Nothing
unfolding by_bits
closed_something true bytes e = something_closed bytes e
closed_something false bytes e = cc

bit_grows : (bits : List Bool) (bit : Bool) → bytes_in 6 bits ≡ None
    → Grows (halves_of bits ++ half_of bit ∷ []) (half_of bit)
unfolding by_bits
bit_grows bits bit none =
    let is = ap outcome_of (sym (halves_of-bit bits bit)) ∙ outcome_of-bits (bits ++ bit ∷ []) in
    elim (next_bit 6 bits bit none) [
      | inl open_bits ↦ inl (is ∙ rw open_bits)
      | inr (bytes, whole, some) ↦
          let count : 18 * length bytes + 2 ≡ length (halves_of bits ++ half_of bit ∷ []) + 1 =
          omega (arith, length-append (halves_of bits) (half_of bit ∷ []), length-halves_of bits, whole) in
          inr (record {
            outcome = (by_bits (bytes, bit)).1;
            is = is ∙ rw (some, count);
            something = closed_something bit bytes;
            left = closed_left bits bit bytes;
          })
    ]

grows_by : (bits : List Bool) (tail : List Half) (half : Half) → bytes_in 6 bits ≡ None → bits_in tail ≡ []
    → by_halves (2 * length bits) tail ≡ None → Grows (halves_of bits ++ tail) half
unfolding bits_in behind_bits by_halves ones_left halves_of half_of
grows_by bits [] Bad e q n = refusal bits [] Bad BadHalf (outcome_behind bits _ e refl refl) refl
grows_by bits [] half e q n = inl (rw append_assoc (outcome_behind bits _ e refl refl))
grows_by bits (Bad ∷ tail) half e q n = cc
grows_by bits (One ∷ []) One e q n = bit_grows bits true e
grows_by bits (Zero ∷ []) Zero e q n = bit_grows bits false e
grows_by bits (first ∷ []) Bad e q n = refusal bits (first ∷ []) Bad BadHalf (outcome_behind bits _ e refl refl) refl
grows_by bits (first ∷ []) half e q n = refusal bits (first ∷ []) half SplitBit (outcome_behind bits _ e refl refl) refl
grows_by bits (One ∷ One ∷ tail) half e q n = cc
grows_by bits (Zero ∷ One ∷ tail) half e q n = cc
grows_by bits tail half e q n = cc

pub open_parts : (o : Option (List ℕ × Bool)) (b : Option (ℕ × Seen)) → option_or (option_map by_bits o) b ≡ None
    → (o ≡ None) × (b ≡ None)
open_parts o b e = grind arith

-- an unfinished body stays unfinished, or ends at the next half
pub outcome_of-push : (halves : List Half) (half : Half) → outcome_of halves ≡ None → Grows halves half
outcome_of-push halves half e =
    let parts = open_parts (bytes_in 6 (bits_in halves)) _ (sym (outcome_parts halves) ∙ e) in
    subst (λ l. Grows l half) (halves_split halves).0
    (grows_by (bits_in halves) (behind_bits halves) half parts.0 (halves_split halves).1 parts.1)

-- an outcome takes at least one half, and none past the end

by_halves-long : (n : ℕ) (tail : List Half) (p : ℕ × Seen) → by_halves n tail ≡ Some p
    → (0 < p.0) × (p.0 ≤ n + length tail)
unfolding by_halves
by_halves-long n tail p e = grind arith

pub outcome_of-long : (halves : List Half) (p : ℕ × Seen) → outcome_of halves ≡ Some p
    → (0 < p.0) × (p.0 ≤ length halves)
unfolding by_bits
outcome_of-long halves p e =
    let here = sym (outcome_parts halves) ∙ e in
    let bits = bits_in halves in
    let all : length halves ≡ 2 * length bits + length (behind_bits halves) =
    ap length (sym (halves_split halves).0)
    ∙ omega (arith, length-append (halves_of bits) (behind_bits halves), length-halves_of bits) in
    elim (cases_Option (bytes_in 6 bits)) [
      | inl none ↦ omega (arith, all, by_halves-long (2 * length bits) (behind_bits halves) p (rw none at here))
      | inr some ↦
          let count = ap (λ r. r.0) (some_same (rw some.1 at here)) in
          omega (arith, all, count, bytes_in-long 6 bits some.0 some.1)
    ]

pub ones_left_le : (outcome : Seen) → ones_left outcome ≤ 2
unfolding ones_left
ones_left_le outcome = grind arith

-- bits that close nothing answer nothing
pub answer-open : (bits : List Bool) → bytes_in 6 bits ≡ None
    → answer_of (option_map by_bits (bytes_in 6 bits)) ≡ Nothing
unfolding answer_of
answer-open bits e = rw e

-- no outcome is nothing
pub outcome_of-something : (halves : List Half) → answer_of (outcome_of halves) ≡ Nothing → outcome_of halves ≡ None
unfolding outcome_of answer_of by_halves body_outcome
outcome_of-something halves e = grind arith
