use Rattle.dcc_tool.proofs.Written.{show_writes_the_listing, encode_writes_the_encoding, run_writes_the_decoders}
use Rattle.dcc_tool.proofs.Written.{same_writes_the_verdict, same_input_writes_the_verdict, show_writes_a_listing}
use Rattle.dcc_tool.proofs.Written.{lost_with_spikes_writes_the_found_packets, lost_writes_the_lost_packets}
use Rattle.dcc_tool.proofs.Written.{show_plain_writes_a_listing, what_writes_the_sentence}
use Rattle.dcc_tool.proofs.Written.{timing_writes_the_figures, station_writes_its_answers, readcv_writes_the_reading}
use Rattle.dcc_tool.proofs.laws.what_calls_write.Goals as goal

pub returns : goal.returns
returns c = record {
  show = show_writes_the_listing;
  show_words = show_writes_a_listing;
  show_plain = show_plain_writes_a_listing;
  lost = lost_writes_the_lost_packets;
  lost_with_spikes = lost_with_spikes_writes_the_found_packets;
  timing = timing_writes_the_figures;
  encode = encode_writes_the_encoding;
  station = station_writes_its_answers;
  run = run_writes_the_decoders;
  same = same_writes_the_verdict;
  same_input = same_input_writes_the_verdict;
  readcv = readcv_writes_the_reading;
  what = what_writes_the_sentence;
}
