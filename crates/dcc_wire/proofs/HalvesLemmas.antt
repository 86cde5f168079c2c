-- The halves of a packet by place.
use Rattle.std.proofs.Common.{◌≡◌, ℕ, suc, zero, ◌+◌, ◌-◌, ◌*◌, ◌/◌, ◌%◌, ◌<◌, ◌≤◌, inl, inr, Bool, true, false, cond}
use Rattle.std.proofs.Common.{eqb, List, [], ◌∷◌, ◌++◌, length, length-append, drop, get_or, replicate, slice_get, Some}
use Rattle.std.proofs.Common.{None, refl, ap, ◌∙◌, arith}
use Rattle.std.specs.Int.{bit_at}
use Rattle.std.proofs.Math.ListN.{drop_of_length-le, length-replicate}
use Rattle.std.proofs.lemmas.Bool.Decides.{nat_tests}
use Rattle.std.proofs.lemmas.List.{drop_more}
use Rattle.std.proofs.lemmas.Option.{slice_get_past, slice_get_within, get_or_from_slice_get, slice_get_cases}
use Rattle.dcc_wire.specs.declared.timing.Timing.{Timing}
use Rattle.dcc_wire.specs.Bodies.{bits_of, body_bits}
use Rattle.dcc_wire.specs.Sending.{durations_of, sent_bits, sent}
use Rattle.dcc_wire.proofs.ByteBits.{some_same, length-body_bits}
use Rattle.dcc_wire.proofs.SendingLemmas.{length-durations, classes}

-- the bits of a byte behind its zero

-- the bits of a packet

-- the halves of bits

-- the first half of a bit, at an even place, or the second
unfoldable pub half_in : Timing → Bool → ℕ → ℕ
half_in timing true r = timing.one
half_in timing false zero = timing.zero_first
half_in timing false (suc r) = timing.zero_second

two_more : (place : ℕ) → (suc (suc place) / 2 ≡ suc (place / 2)) × (suc (suc place) % 2 ≡ place % 2)
two_more place = omega arith

durations-at : (timing : Timing) (bits : List Bool) (place : ℕ) (bit : Bool) → slice_get bits (place / 2) ≡ Some bit
    → slice_get (durations_of timing bits) place ≡ Some (half_in timing bit (place % 2))
unfolding durations_of half_in
durations-at timing [] place bit e = cc
durations-at timing (true ∷ bits) (suc (suc place)) bit e =
    let two = two_more place in rw two.1 (durations-at timing bits place bit (rw two.0 at e))
durations-at timing (false ∷ bits) (suc (suc place)) bit e =
    let two = two_more place in rw two.1 (durations-at timing bits place bit (rw two.0 at e))
durations-at timing (b ∷ bits) place bit e = rw (← some_same e)

past_end : {A : Type 0} (xs : List A) (i : ℕ) → slice_get xs i ≡ None → length xs ≤ i
past_end xs i e = elim (slice_get_cases xs i).1 [ inl (x, within, some, read) ↦ cc | inr (past, none) ↦ past ]

-- what the bit at a place says of the half there

module _ (bytes : List ℕ) (timing : Timing) (place : ℕ) where
  pub no_half : slice_get (sent_bits bytes timing.preamble) (place / 2) ≡ None
      → slice_get (sent bytes timing) place ≡ None
  unfolding sent
  no_half e =
      let bits = sent_bits bytes timing.preamble in
      slice_get_past (durations_of timing bits) place
      (omega (arith, length-durations timing bits, past_end bits (place / 2) e))

  pub half_of : (bit : Bool) → slice_get (sent_bits bytes timing.preamble) (place / 2) ≡ Some bit
      → slice_get (sent bytes timing) place ≡ Some (half_in timing bit (place % 2))
  unfolding sent
  half_of bit e = durations-at timing (sent_bits bytes timing.preamble) place bit e

  pub short_place : (bit : Bool) → slice_get (sent_bits bytes timing.preamble) (place / 2) ≡ Some bit → length bytes ≤ 6
      → place < 190
  unfolding sent_bits
  short_place bit e few =
      let within = slice_get_within (replicate timing.preamble true ++ body_bits bytes) (place / 2) bit e in
      let most = (classes timing).most in
      omega (arith, within, length-append {A = Bool}, length-replicate {A = Bool}, length-body_bits, most)

-- what is left from a place on, by what stands there
pub left_from : {A : Type 0} (xs : List A) (place : ℕ) (x : A) → slice_get xs place ≡ Some x
    → drop place xs ≡ x ∷ drop (place + 1) xs
left_from xs place x e =
    drop_more xs place x (slice_get_within xs place x e) ∙ rw (get_or_from_slice_get xs place x x e)

pub nothing_left : {A : Type 0} (xs : List A) (place : ℕ) → slice_get xs place ≡ None → drop place xs ≡ []
nothing_left xs place e = drop_of_length-le xs (past_end xs place e)

pub ruleset by_place = (left_from, nothing_left)
