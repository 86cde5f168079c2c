-- Worked rows, computed.
use Rattle.std.proofs.Common.{◌≡◌, ℕ, List, [], ◌∷◌, ◌++◌, replicate, take}
use Rattle.dcc_wire.specs.declared.half.Half.{Half}
use Rattle.dcc_wire.specs.declared.half.Half.TheVariants.{One, Zero, Bad}
use Rattle.dcc_wire.specs.declared.seen.Fault.TheVariants.{BadHalf, SplitBit, TooLong, TooShort, ErrorByte}
use Rattle.dcc_wire.specs.declared.seen.Seen.{Seen}
use Rattle.dcc_wire.specs.declared.seen.Seen.TheVariants.{Refused, Packet}
use Rattle.dcc_wire.specs.Bodies.{bits_of, body_bits, halves_of, body, number_of}
use Rattle.dcc_wire.specs.Framing.{seen, starts_below, ones_before, ones_at_end, used_up}
use Rattle.dcc_wire.specs.Framing.{is_start}
use Rattle.dcc_wire.specs.Outcomes.{bytes_in, ones_left, bits_in, body_outcome, by_halves}
use Rattle.dcc_wire.specs.Outcomes.{outcome_of}
use Rattle.dcc_wire.specs.Inner.OutcomesAt.{outcome_at, outcomes_at}
use Rattle.dcc_wire.specs.Inner.OutcomeParts.{behind_bits, by_bits}

-- halves of a one and of a zero as a station sends them, and a bad one
durations_of : List Half → List ℕ
durations_of [] = []
durations_of (One ∷ halves) = 58 ∷ durations_of halves
durations_of (Zero ∷ halves) = 100 ∷ durations_of halves
durations_of (Bad ∷ halves) = 70 ∷ durations_of halves

-- what these halves show behind so many halves of ones, each outcome with the place of its last half
seen_behind : ℕ → List Half → List (ℕ × Seen)
seen_behind ones halves = seen (durations_of (replicate ones One ++ halves))

-- two packets after such noise, the first of them after so many half-bits of ones
after_noise : ℕ → List (ℕ × Seen)
after_noise ones =
    seen_behind 28 (take 38 (body (0 ∷ 255 ∷ 0 ∷ [])) ++ replicate ones One ++ body (3 ∷ 98 ∷ 97 ∷ [])
    ++ replicate 28 One ++ body (3 ∷ 127 ∷ 124 ∷ []))

record Rows : Type 0 where
  preamble_of_19_halves : seen_behind 19 (body (3 ∷ 98 ∷ 97 ∷ [])) ≡ []
  preamble_of_20_halves : seen_behind 20 (body (3 ∷ 98 ∷ 97 ∷ [])) ≡ (75, Packet (3 ∷ 98 ∷ 97 ∷ [])) ∷ []
  preamble_of_21_halves : seen_behind 21 (body (3 ∷ 98 ∷ 97 ∷ [])) ≡ (76, Packet (3 ∷ 98 ∷ 97 ∷ [])) ∷ []
  preamble_of_29_halves : seen_behind 29 (body (3 ∷ 98 ∷ 97 ∷ [])) ≡ (84, Packet (3 ∷ 98 ∷ 97 ∷ [])) ∷ []
  bad_half : seen_behind 28 (Zero ∷ Zero ∷ Bad ∷ []) ≡ (30, Refused BadHalf) ∷ []
  split_bit : seen_behind 28 (Zero ∷ Zero ∷ One ∷ Zero ∷ []) ≡ (31, Refused SplitBit) ∷ []
  split_start_bit : seen_behind 28 (Zero ∷ One ∷ []) ≡ (29, Refused SplitBit) ∷ []
  two_bytes : seen_behind 28 (body (3 ∷ 3 ∷ [])) ≡ (65, Refused TooShort) ∷ []
  six_bytes_and_a_zero : seen_behind 28
      (take 108 (body (1 ∷ 2 ∷ 3 ∷ 4 ∷ 5 ∷ 6 ∷ [])) ++ Zero ∷ Zero ∷ []) ≡ (137, Refused TooLong) ∷ []
  wrong_error_byte : seen_behind 28 (body (3 ∷ 98 ∷ 96 ∷ [])) ≡ (83, Refused (ErrorByte (3 ∷ 98 ∷ 96 ∷ []))) ∷ []
  -- the end bit counts towards the next preamble, and the ones of an error byte before it do not
  end_bit_and_18_halves : seen_behind 20
      (body (3 ∷ 98 ∷ 97 ∷ []) ++ replicate 18 One ++ body (3 ∷ 127 ∷ 124 ∷ []))
      ≡ (75, Packet (3 ∷ 98 ∷ 97 ∷ [])) ∷ (149, Packet (3 ∷ 127 ∷ 124 ∷ [])) ∷ []
  error_byte_of_ones_and_16_halves : seen_behind 20
      (body (255 ∷ 0 ∷ 255 ∷ []) ++ replicate 16 One ++ body (3 ∷ 127 ∷ 124 ∷ []))
      ≡ (75, Packet (255 ∷ 0 ∷ 255 ∷ [])) ∷ []
  -- noise that ends with the zero before a third byte: the next preamble completes a packet that nobody sent
  packet_after_noise_is_lost : after_noise 28
      ≡ (83, Packet (0 ∷ 255 ∷ 255 ∷ [])) ∷ (233, Packet (3 ∷ 127 ∷ 124 ∷ [])) ∷ []
  packet_of_18_ones_after_noise : after_noise 36
      ≡ (83, Packet (0 ∷ 255 ∷ 255 ∷ [])) ∷ (157, Packet (3 ∷ 98 ∷ 97 ∷ []))
      ∷ (241, Packet (3 ∷ 127 ∷ 124 ∷ [])) ∷ []

rows : Rows
unfolding after_noise seen_behind durations_of seen outcome_at outcomes_at starts_below is_start used_up
    ones_at_end ones_before outcome_of bits_in behind_bits bytes_in body_outcome by_bits by_halves ones_left body
    halves_of
    body_bits
    bits_of number_of
rows = assumption
