use Rattle.dcc_order.proofs.NoisyTrackLaws as law
use Rattle.dcc_order.proofs.laws.noise_costs_no_packet_but_the_first.Goals as goal

pub returns : goal.returns
returns c = record {
  packets = law.noise_costs_no_packet_but_the_first;
  between = law.noise_between_bodies_costs_no_packet;
  decoders = law.decoders_hear_packets_after_noise;
}
