-- Packets with spikes in given lists, computed on the definitions. Half-bits shorter than 5
-- microseconds are spikes, if no other limit is given.
use Rattle.std.proofs.Common.{◌≡◌, ℕ, List, [], ◌∷◌, ◌++◌, replicate, drop, None}
use Rattle.dcc_wire.specs.Bodies.{bits_of, body_bits, halves_of, body, number_of}
use Rattle.dcc_wire.specs.Framing.{seen, starts_below, ones_before, ones_at_end, used_up}
use Rattle.dcc_wire.specs.Framing.{is_start, rest, rest_at, hunting}
use Rattle.dcc_wire.specs.Outcomes.{bytes_in, ones_left, bits_in, body_outcome, by_halves}
use Rattle.dcc_wire.specs.Outcomes.{outcome_of}
use Rattle.dcc_wire.specs.Inner.OutcomesAt.{outcome_at, outcomes_at}
use Rattle.dcc_wire.specs.Inner.OutcomeParts.{behind_bits, by_bits}
use Rattle.dcc_lost.specs.declared.joined.SpikedPacket.{SpikedPacket}
use Rattle.dcc_lost.specs.Joined.{join_next, joined, joining_of}
use Rattle.dcc_lost.specs.JoinedLost.{of_each, unless_seen, frame_found, causes_of, with_spikes}
use Rattle.dcc_lost.specs.JoinedLost.{packet_found, report_found, packets_closed_after, packets_closed, packets_found}
use Rattle.dcc_lost.specs.Lost.{packet_of_length, frame_after_ones, frame_at_end, longest_frame_at_end}
use Rattle.dcc_lost.specs.Unused.{last_outcome, unused_after, since_refusal, unused_at_end}
use Rattle.dcc_lost.specs.Causes.{off_limits, ones_before_body, short_preamble}
use Rattle.dcc_lost.proofs.WorkedExamples.{sent_with}

-- the half-bits of the body of the packet to locomotive 3
body_3 : List ℕ
body_3 = sent_with 58 100 (body (3 ∷ 98 ∷ 97 ∷ []))

-- the packet to locomotive 3 with so many spikes and no other cause, which ends at this place
spiked_3 : ℕ → ℕ → List (ℕ × SpikedPacket)
spiked_3 place spikes = (
  place,
  record {
    lost = record { frame = 3 ∷ 98 ∷ 97 ∷ []; preamble = None; ones = None; zeros = None };
    spikes = spikes;
  },
) ∷ []

record SpikedRows : Type 0 where
  -- a spike of 3 microseconds divides the first half-bit of the start bit
  spike_in_the_start_bit : packets_found 5 (replicate 28 58 ++ 48 ∷ 3 ∷ 49 ∷ drop 1 body_3) ≡ spiked_3 85 1
  -- the same spike is no spike if the limit is 3
  no_spike_below_3 : packets_found 3 (replicate 28 58 ++ 48 ∷ 3 ∷ 49 ∷ drop 1 body_3) ≡ []
  spike_in_the_preamble : packets_found 5 (replicate 18 58 ++ 30 ∷ 4 ∷ 24 ∷ replicate 9 58 ++ body_3)
      ≡ spiked_3 85 1
  -- a packet that is seen is not found
  seen_packet : packets_found 5 (replicate 28 58 ++ body_3) ≡ []

spiked_rows : SpikedRows
unfolding sent_with body_3 spiked_3 packets_found packets_closed packets_closed_after report_found packet_found
    with_spikes causes_of frame_found unless_seen of_each joined joining_of join_next short_preamble
    ones_before_body off_limits unused_at_end since_refusal unused_after last_outcome longest_frame_at_end
    frame_at_end
    frame_after_ones packet_of_length seen outcome_at outcomes_at starts_below is_start used_up
    ones_at_end
    ones_before rest rest_at hunting outcome_of bits_in behind_bits bytes_in body_outcome by_bits by_halves ones_left
    body
    halves_of body_bits bits_of number_of
spiked_rows = assumption
