use Rattle.dcc_order.proofs.SafeTrackLaws as law
use Rattle.dcc_order.proofs.laws.decoders_are_safe_on_any_track.Goals as goal

pub returns : goal.returns
returns c = record {
  stands = law.standing_loco_stands;
  movers = law.only_speed_packets_move;
  stops = law.last_stop_stops;
  writes = law.cvs_change_by_writes;
  copies = law.cvs_change_by_two_copies;
  stay = law.cvs_stay_without_writes;
  read_only = law.read_only_cvs_stay;
}
