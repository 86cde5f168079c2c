use Rattle.dcc_order.proofs.ToldTrackLaws.{no_half_has_come, no_packet_has_come, packet_is_heard_and_told}
use Rattle.dcc_order.proofs.ToldTrackLaws.{track_is_heard, track_is_told}
use Rattle.dcc_order.proofs.laws.packets_are_told.Goals as goal

pub returns : goal.returns
returns g c = record {
  begins = no_half_has_come g.N.Notify.told;
  no_packet = no_packet_has_come g.N.Notify.told;
  packet = packet_is_heard_and_told g.N.Notify.told;
  heard = track_is_heard g.N.Notify.told;
  told = track_is_told g.N.Notify.told;
}
