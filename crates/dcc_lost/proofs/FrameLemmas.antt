-- The frame that follows 8 half-bits of ones.
use Rattle.std.proofs.Common.{◌≡◌, ◌≢◌, ℕ, ◌-◌, ◌<◌, ◌≤◌, List, [], ◌∷◌, length, take, drop, length-drop, map, get_or}
use Rattle.std.proofs.Common.{Option, Some, None, refl, sym}
use Rattle.std.proofs.Common.{ap, ◌∙◌, arith}
use Rattle.std.proofs.Common.{inl, inr}
use Rattle.std.proofs.lemmas.Bool.{cases_lt, lt-leb, le-leb}
use Rattle.std.proofs.lemmas.List.{drop-map, get_or-drop, take_all}
use Rattle.dcc_wire.specs.declared.half.Half.{Half}
use Rattle.dcc_wire.specs.declared.half.Half.TheVariants.{One, Zero, Bad}
use Rattle.dcc_wire.specs.declared.seen.Seen.{Seen}
use Rattle.dcc_wire.specs.declared.seen.Seen.TheVariants.{Nothing, Packet, Refused}
use Rattle.dcc_wire.specs.Framing.{ones_before}
use Rattle.dcc_wire.specs.Outcomes.{outcome_of, bits_in, bytes_in, by_halves, body_outcome}
use Rattle.dcc_wire.specs.Inner.Steps.{answer_of}
use Rattle.dcc_wire.specs.Inner.OutcomeParts.{behind_bits, by_bits}
use Rattle.dcc_lost.specs.Nearest.{nearest_class}
use Rattle.dcc_lost.specs.Lost.{packet_of_length, frame_after_ones}

-- no body begins with another half-bit than one of a zero
pub no_packet : (n : ℕ) (halves : List Half) → ((more : List Half) → halves ≢ Zero ∷ more)
    → packet_of_length n (outcome_of halves) ≡ None
unfolding packet_of_length outcome_of bits_in behind_bits bytes_in by_halves by_bits body_outcome
no_packet n [] other = refl
no_packet n (Zero ∷ halves) other = absurd (other halves refl)
no_packet n (Bad ∷ halves) other = refl
no_packet n (One ∷ []) other = refl
no_packet n (One ∷ One ∷ halves) other = refl
no_packet n (One ∷ Zero ∷ halves) other = refl
no_packet n (One ∷ Bad ∷ halves) other = refl

pub few_ones : (n : ℕ) (halves : List ℕ) → ones_before (map nearest_class halves) < 8 → None ≡ frame_after_ones n halves
unfolding frame_after_ones
few_ones n halves few = rw (lt-leb 8 (ones_before (map nearest_class halves)) few)

pub after_ones : (n : ℕ) (halves : List ℕ) → 8 ≤ ones_before (map nearest_class halves)
    → packet_of_length n (outcome_of (map nearest_class (drop 8 halves))) ≡ frame_after_ones n halves
unfolding frame_after_ones
after_ones n halves enough = rw (le-leb 8 (ones_before (map nearest_class halves)) enough, drop-map)

not_zero : (halves : List ℕ) → (0 < length halves → nearest_class (get_or halves 0 0) ≢ Zero) → (more : List Half)
    → map nearest_class halves ≢ Zero ∷ more
not_zero [] other more e = cc
not_zero (us ∷ halves) other more e = other (omega arith) cc

pub no_start : (n : ℕ) (halves : List ℕ) → (0 < length halves → nearest_class (get_or halves 0 0) ≢ Zero)
    → None ≡ packet_of_length n (outcome_of (map nearest_class halves))
no_start n halves other = sym (no_packet n (map nearest_class halves) (not_zero halves other))

-- without a zero after the first 8 half-bits
pub no_start_after : (n : ℕ) (halves : List ℕ) → (8 < length halves → nearest_class (get_or halves 8 0) ≢ Zero)
    → None ≡ frame_after_ones n halves
no_start_after n halves other = elim (cases_lt (ones_before (map nearest_class halves)) 8) [
  | inl few ↦ few_ones n halves few
  | inr enough ↦
      no_start n (drop 8 halves)
      (λ some zero.
      other (omega (arith, some, length-drop 8 halves)) (ap nearest_class (sym (get_or-drop 8 halves 0 0)) ∙ zero))
      ∙ after_ones n halves enough
]

packet_alike : (n count : ℕ) (answer : Seen) → packet_of_length n (Some (0, answer))
    ≡ packet_of_length n (Some (count, answer))
unfolding packet_of_length
packet_alike n count Nothing = refl
packet_alike n count (Packet bytes) = refl
packet_alike n count (Refused fault) = refl

packet_answered : (n : ℕ) (outcome : Option (ℕ × Seen)) → packet_of_length n (Some (0, answer_of outcome))
    ≡ packet_of_length n outcome
unfolding packet_of_length answer_of
packet_answered n None = refl
packet_answered n (Some (count, answer)) = packet_alike n count answer

pub answered : (n : ℕ) (halves : List ℕ) (answer : Seen) (frame : Option (List ℕ))
    → answer ≡ answer_of (outcome_of (map nearest_class halves)) → frame ≡ packet_of_length n (Some (0, answer))
    → frame ≡ packet_of_length n (outcome_of (map nearest_class halves))
answered n halves answer frame is e =
    e ∙ ap (λ a. packet_of_length n (Some (0, a))) is ∙ packet_answered n (outcome_of (map nearest_class halves))

pub framed : (n : ℕ) (halves : List ℕ) (frame : Option (List ℕ)) → 8 ≤ ones_before (map nearest_class halves)
    → frame ≡ packet_of_length n (outcome_of (map nearest_class (take (length halves - 8) (drop 8 halves))))
    → frame ≡ frame_after_ones n halves
framed n halves frame enough e =
    e ∙ rw (take_all (length halves - 8) (drop 8 halves) (omega (arith, length-drop 8 halves)))
    (after_ones n halves enough)
