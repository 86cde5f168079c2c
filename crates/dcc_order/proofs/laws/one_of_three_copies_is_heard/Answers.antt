use Rattle.dcc_order.proofs.NoisyTrackLaws as law
use Rattle.dcc_order.proofs.laws.one_of_three_copies_is_heard.Goals as goal

pub returns : goal.returns
returns c = record {
  copy = law.one_of_three_copies_is_heard;
  stops = law.one_of_three_stops_is_enough;
  copy_after_noise = law.one_of_three_copies_is_heard_after_noise;
  stops_after_noise = law.one_of_three_stops_is_enough_after_noise;
}
