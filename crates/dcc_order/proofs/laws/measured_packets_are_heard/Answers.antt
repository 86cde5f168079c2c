use Rattle.dcc_order.proofs.NoisyTrackLaws as law
use Rattle.dcc_order.proofs.laws.measured_packets_are_heard.Goals as goal

pub returns : goal.returns
returns c = record {
  packets = law.measured_packets_are_heard;
  anywhere = law.measuring_changes_no_decoder;
  varied = law.varied_packets_are_heard;
  varied_anywhere = law.varying_changes_no_decoder;
  nominal = law.nominal_packets_are_heard;
}
