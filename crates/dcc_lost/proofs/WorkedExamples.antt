-- Lost packets of given lists, computed on the definitions.
use Rattle.std.proofs.Common.{◌≡◌, ℕ, List, [], ◌∷◌, ◌++◌, replicate, drop, Option, Some, None}
use Rattle.dcc_wire.specs.declared.half.Half.{Half}
use Rattle.dcc_wire.specs.declared.half.Half.TheVariants.{One, Zero, Bad}
use Rattle.dcc_wire.specs.Bodies.{bits_of, body_bits, halves_of, body, number_of}
use Rattle.dcc_wire.specs.Framing.{seen, starts_below, ones_before, ones_at_end, used_up}
use Rattle.dcc_wire.specs.Framing.{is_start, rest, rest_at, hunting}
use Rattle.dcc_wire.specs.Outcomes.{bytes_in, ones_left, bits_in, body_outcome, by_halves}
use Rattle.dcc_wire.specs.Outcomes.{outcome_of}
use Rattle.dcc_wire.specs.Inner.OutcomesAt.{outcome_at, outcomes_at}
use Rattle.dcc_wire.specs.Inner.OutcomeParts.{behind_bits, by_bits}
use Rattle.dcc_lost.specs.declared.causes.OffLimits.{OffLimits}
use Rattle.dcc_lost.specs.declared.causes.ShortPreamble.{ShortPreamble}
use Rattle.dcc_lost.specs.declared.causes.LostPacket.{LostPacket}
use Rattle.dcc_lost.specs.Joined.{join_next, joined, joining_of}
use Rattle.dcc_lost.specs.Lost.{packet_of_length, frame_after_ones, frame_at_end, longest_frame_at_end, is_unheard}
use Rattle.dcc_lost.specs.Lost.{frame_lost}
use Rattle.dcc_lost.specs.Unused.{last_outcome, unused_after, since_refusal, unused_at_end}
use Rattle.dcc_lost.specs.Causes.{off_limits, ones_before_body, short_preamble, with_causes, packet_lost, report_lost}
use Rattle.dcc_lost.specs.Causes.{packets_lost_after, packets_lost}
use Rattle.dcc_lost.specs.Preambles.{all_unused_at_end, lost_count, packets_seen_or_lost, preamble_at_end}
use Rattle.dcc_lost.specs.Preambles.{shortest_preamble}
use Rattle.dcc_timing.specs.Numbers.{least}
use Rattle.dcc_timing.specs.PacketBits.{packets_in}

-- half-bits with this duration of ones and this duration of zeros; a bad half-bit takes 5
-- microseconds
unfoldable pub sent_with : ℕ → ℕ → List Half → List ℕ
sent_with one low [] = []
sent_with one low (One ∷ halves) = one ∷ sent_with one low halves
sent_with one low (Zero ∷ halves) = low ∷ sent_with one low halves
sent_with one low (Bad ∷ halves) = 5 ∷ sent_with one low halves

-- the half-bits of a packet after n half-bits of ones
packet_with : ℕ → ℕ → ℕ → List ℕ → List ℕ
packet_with one low n bytes = sent_with one low (replicate n One ++ body bytes)

-- the packet to locomotive 3 with these causes, which ends at this place
loco_3 : ℕ → Option ShortPreamble → Option OffLimits → Option OffLimits → List (ℕ × LostPacket)
loco_3 place preamble ones zeros =
    (place, record { frame = 3 ∷ 98 ∷ 97 ∷ []; preamble = preamble; ones = ones; zeros = zeros }) ∷ []

-- the cause of a preamble with so many half-bits that no outcome uses
only : ℕ → Option ShortPreamble
only ones = Some (record { ones = ones; since_refusal = None })

-- the cause of so many half-bits between these limits
between : ℕ → ℕ → ℕ → Option OffLimits
between count least most = Some (record { count = count; least = least; most = most })

record Rows : Type 0 where
  -- a preamble that is too short
  preamble_of_16_halves : packets_lost (packet_with 58 100 16 (3 ∷ 98 ∷ 97 ∷ [])) ≡ loco_3 71 (only 16) None None
  preamble_of_19_halves : packets_lost (packet_with 58 100 19 (3 ∷ 98 ∷ 97 ∷ [])) ≡ loco_3 74 (only 19) None None
  preamble_of_8_halves : packets_lost (packet_with 58 100 8 (3 ∷ 98 ∷ 97 ∷ [])) ≡ loco_3 63 (only 8) None None
  -- fewer than 8 half-bits of ones are no preamble
  preamble_of_7_halves : packets_lost (packet_with 58 100 7 (3 ∷ 98 ∷ 97 ∷ [])) ≡ []
  -- a packet that is seen is not lost
  seen_packet : packets_lost (packet_with 58 100 20 (3 ∷ 98 ∷ 97 ∷ [])) ≡ []
  -- ones that are too long: 20 half-bits before the body and 18 in it; zeros that are too short
  ones_of_66 : packets_lost (packet_with 66 100 28 (3 ∷ 98 ∷ 97 ∷ [])) ≡ loco_3 83 None (between 38 66 66) None
  zeros_of_85 : packets_lost (packet_with 58 85 28 (3 ∷ 98 ∷ 97 ∷ [])) ≡ loco_3 83 None None (between 38 85 85)
  -- one half-bit of 70 microseconds in a preamble of 28
  one_of_70 : packets_lost (replicate 20 58 ++ 70 ∷ replicate 7 58 ++ sent_with 58 100 (body (3 ∷ 98 ∷ 97 ∷ [])))
      ≡ loco_3 83 None (between 1 70 70) None
  -- the limits of the nearest classes
  ones_of_26 : packets_lost (packet_with 26 77 8 (3 ∷ 98 ∷ 97 ∷ []))
      ≡ loco_3 63 (only 8) (between 26 26 26) (between 38 77 77)
  ones_of_25 : packets_lost (packet_with 25 77 8 (3 ∷ 98 ∷ 97 ∷ [])) ≡ []
  ones_of_76 : packets_lost (packet_with 76 20000 8 (3 ∷ 98 ∷ 97 ∷ []))
      ≡ loco_3 63 (only 8) (between 26 76 76) (between 38 20000 20000)
  ones_of_77 : packets_lost (packet_with 77 20000 8 (3 ∷ 98 ∷ 97 ∷ [])) ≡ []
  zeros_of_20001 : packets_lost (packet_with 76 20001 8 (3 ∷ 98 ∷ 97 ∷ [])) ≡ []
  -- a spike begins a body, which ends at its second half-bit: only the ones after it are left
  spike_in_the_preamble : packets_lost
      (replicate 20 58 ++ 100 ∷ replicate 12 58 ++ sent_with 58 100 (body (3 ∷ 98 ∷ 97 ∷ [])))
      ≡ loco_3 88 (Some (record { ones = 11; since_refusal = Some 67 })) None None
  -- a refusal in the body
  zero_of_85 : packets_lost (replicate 20 58 ++ 100 ∷ 85 ∷ sent_with 58 100 (drop 2 (body (3 ∷ 98 ∷ 97 ∷ []))))
      ≡ loco_3 75 None None (between 1 85 85)
  -- locomotive 4047, and not the shorter packet to locomotive 63 that is hidden in it
  longest : packets_lost (packet_with 58 100 16 (207 ∷ 207 ∷ 63 ∷ 133 ∷ 186 ∷ []))
      ≡ (107, record { frame = 207 ∷ 207 ∷ 63 ∷ 133 ∷ 186 ∷ []; preamble = only 16; ones = None; zeros = None }) ∷ []
  -- a wrong error byte
  wrong_error_byte : packets_lost (packet_with 58 100 16 (3 ∷ 98 ∷ 96 ∷ [])) ≡ []

-- half-bits shorter than 5 microseconds are spikes
record JoinedRows : Type 0 where
  two_after_a_spike : joined 5 (58 ∷ 3 ∷ 3 ∷ 3 ∷ 3 ∷ 58 ∷ []) ≡ (58 ∷ 3 ∷ 3 ∷ 3 ∷ 3 ∷ []) ∷ (58 ∷ []) ∷ []
  the_half_after_a_spike : joined 5 (58 ∷ 58 ∷ 1 ∷ 57 ∷ 57 ∷ []) ≡ (58 ∷ []) ∷ (58 ∷ 1 ∷ 57 ∷ []) ∷ (57 ∷ []) ∷ []
  the_first_half : joined 5 (3 ∷ 58 ∷ 58 ∷ []) ≡ (3 ∷ []) ∷ (58 ∷ []) ∷ (58 ∷ []) ∷ []

record FigureRows : Type 0 where
  -- a packet that is seen, after a preamble of 14 ones
  healthy : shortest_preamble (packet_with 58 100 28 (3 ∷ 98 ∷ 97 ∷ [])) ≡ Some 28
  healthy_lost : lost_count (packet_with 58 100 28 (3 ∷ 98 ∷ 97 ∷ [])) ≡ 0
  -- a packet that is lost, after a preamble of 8 ones
  preamble_of_16 : shortest_preamble (packet_with 58 100 16 (3 ∷ 98 ∷ 97 ∷ [])) ≡ Some 16
  preamble_of_16_lost : lost_count (packet_with 58 100 16 (3 ∷ 98 ∷ 97 ∷ [])) ≡ 1
  -- a packet that is lost because of its ones, after a preamble of 14 ones
  ones_of_66 : shortest_preamble (packet_with 66 100 28 (3 ∷ 98 ∷ 97 ∷ [])) ≡ Some 28
  -- a packet of which a spike uses the ones before it
  spike_in_the_preamble : shortest_preamble
      (replicate 20 58 ++ 100 ∷ replicate 12 58 ++ sent_with 58 100 (body (3 ∷ 98 ∷ 97 ∷ [])))
      ≡ Some 11
  -- a preamble that begins with the end bit of the packet before it
  two_packets : shortest_preamble
      (packet_with 58 100 28 (3 ∷ 98 ∷ 97 ∷ []) ++ packet_with 58 100 20 (3 ∷ 98 ∷ 97 ∷ []))
      ≡ Some 22
  -- no packets
  ones_only : shortest_preamble (replicate 40 58) ≡ None

rows : Rows
unfolding sent_with packet_with loco_3 only between packets_lost packets_lost_after report_lost packet_lost with_causes
    short_preamble ones_before_body off_limits unused_at_end since_refusal unused_after last_outcome frame_lost
    is_unheard
    longest_frame_at_end frame_at_end frame_after_ones packet_of_length seen outcome_at outcomes_at starts_below
    is_start used_up
    ones_at_end ones_before rest rest_at hunting outcome_of bits_in behind_bits bytes_in body_outcome
    by_bits
    by_halves ones_left body halves_of body_bits bits_of number_of
rows = assumption

joined_rows : JoinedRows
unfolding joined joining_of join_next
joined_rows = assumption

figure_rows : FigureRows
unfolding shortest_preamble packets_seen_or_lost packets_in least preamble_at_end all_unused_at_end
    starts_below sent_with packet_with loco_3 only between packets_lost packets_lost_after report_lost
    packet_lost with_causes short_preamble ones_before_body off_limits unused_at_end since_refusal
    unused_after last_outcome frame_lost is_unheard longest_frame_at_end frame_at_end frame_after_ones
    packet_of_length seen outcome_at outcomes_at is_start used_up ones_at_end ones_before rest
    rest_at hunting outcome_of bits_in behind_bits bytes_in body_outcome by_bits by_halves ones_left body
    halves_of body_bits bits_of number_of
figure_rows = assumption
