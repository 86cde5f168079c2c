-- One half more on an unfinished body that is kept as bits and a first half.
use Rattle.std.proofs.Common.{◌≡◌, ◌*◌, Bool, true, false, List, [], ◌∷◌, ◌++◌, length, Some, None, sym, ◌∙◌, arith}
use Rattle.std.proofs.Common.{Option, append_assoc, append-nil, refl, ◌≢◌}
use Rattle.std.specs.Option.{option_map}
use Rattle.dcc_wire.specs.declared.half.Half.{Half}
use Rattle.dcc_wire.specs.declared.half.Half.TheVariants.{Bad}
use Rattle.dcc_wire.specs.declared.seen.Fault.TheVariants.{BadHalf, SplitBit}
use Rattle.dcc_wire.specs.declared.seen.Seen.TheVariants.{Nothing, Refused}
use Rattle.dcc_wire.specs.Bodies.{halves_of, first_half}
use Rattle.dcc_wire.specs.Half.{bit_of}
use Rattle.dcc_wire.specs.Inner.Steps.{answer_of}
use Rattle.dcc_wire.specs.Outcomes.{bytes_in, bits_in, by_halves, outcome_of}
use Rattle.dcc_wire.specs.Inner.OutcomeParts.{behind_bits, by_bits}
use Rattle.dcc_wire.proofs.BitLemmas.{half_of, halves_of-bit}
use Rattle.dcc_wire.proofs.OutcomeLemmas.{outcome_behind, outcome_of-bits}
use mathlib.Core.Bool.{beq}

pub half_of-bit : (half : Half) (bit : Bool) → bit_of half ≡ Some bit → half ≡ half_of bit
unfolding half_of
half_of-bit half bit e = grind arith

pub bad_half : (half : Half) → bit_of half ≡ None → half ≡ Bad
bad_half half e = grind arith

module _ (bits : List Bool) where
  pub first_more : (bit : Bool)
      → halves_of bits ++ first_half (Some bit) ≡ (halves_of bits ++ first_half None) ++ half_of bit ∷ []
  unfolding half_of first_half
  first_more true = rw append-nil
  first_more false = rw append-nil

  pub bit_more : (bit : Bool)
      → halves_of (bits ++ bit ∷ []) ≡ (halves_of bits ++ first_half (Some bit)) ++ half_of bit ∷ []
  unfolding half_of first_half
  bit_more true = halves_of-bit bits true
  bit_more false = halves_of-bit bits false

  pub answer-bit : (bit : Bool)
      → answer_of (outcome_of ((halves_of bits ++ first_half (Some bit)) ++ half_of bit ∷ [])) ≡ answer_of
      (option_map by_bits (bytes_in 6 (bits ++ bit ∷ [])))
  answer-bit bit = rw (← bit_more bit, outcome_of-bits)

module _ (bits : List Bool) (unfinished : bytes_in 6 bits ≡ None) where
  -- a half more that makes no whole bit
  answer-behind : (first : Option Bool) (half : Half) → bits_in (first_half first ++ half ∷ []) ≡ []
      → behind_bits (first_half first ++ half ∷ []) ≡ first_half first ++ half ∷ []
      → answer_of (outcome_of ((halves_of bits ++ first_half first) ++ half ∷ [])) ≡ answer_of
      (by_halves (2 * length bits) (first_half first ++ half ∷ []))
  answer-behind first half e f = rw (append_assoc, outcome_behind bits (first_half first ++ half ∷ []) unfinished e f)

  pub answer-bad : (first : Option Bool)
      → answer_of (outcome_of ((halves_of bits ++ first_half first) ++ Bad ∷ [])) ≡ Refused BadHalf
  unfolding first_half answer_of bits_in behind_bits by_halves
  answer-bad first = answer-behind first Bad (grind arith) (grind arith) ∙ grind arith

  pub answer-first : (bit : Bool)
      → answer_of (outcome_of ((halves_of bits ++ first_half None) ++ half_of bit ∷ [])) ≡ Nothing
  unfolding first_half half_of answer_of bits_in behind_bits by_halves
  answer-first bit = answer-behind None (half_of bit) (grind arith) (grind arith) ∙ grind arith

  pub answer-split : (first bit : Bool) → first ≢ bit
      → answer_of (outcome_of ((halves_of bits ++ first_half (Some first)) ++ half_of bit ∷ [])) ≡ Refused SplitBit
  unfolding first_half half_of answer_of bits_in behind_bits by_halves
  answer-split first bit apart = answer-behind (Some first) (half_of bit) (grind arith) (grind arith) ∙ grind arith

-- an unfinished body has no outcome
pub body_open : (bits : List Bool) (first : Option Bool) → bytes_in 6 bits ≡ None
    → outcome_of (halves_of bits ++ first_half first) ≡ None
unfolding first_half bits_in behind_bits by_halves
body_open bits None unfinished = rw (append-nil, outcome_of-bits, unfinished) refl
body_open bits (Some true) unfinished = outcome_behind bits (first_half (Some true)) unfinished refl refl
body_open bits (Some false) unfinished = outcome_behind bits (first_half (Some false)) unfinished refl refl
