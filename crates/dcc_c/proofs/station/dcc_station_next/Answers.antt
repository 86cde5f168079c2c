use Rattle.dcc_station.specs.Refresh.{hands_out}
use Rattle.dcc_station.specs.Stops.{hands_out as hands_out_one}
use Rattle.dcc_c.specs.Stations.{sending_of}
use Rattle.dcc_c.proofs.station.dcc_station_next.Goals as goal

pub returns-clause-stands : goal.returns-clause-stands
returns-clause-stands c = (
  c.next.new.packet,
  c.put_frame.ensures,
  λ commands packets from. hands_out (sending_of c.args.station.now) (sending_of c.next.new.station) commands
      packets
      c.next.new.packet from c.next.ensures,
)

pub returns-clause-obeys : goal.returns-clause-obeys
returns-clause-obeys c = (
  c.next.new.packet,
  c.put_frame.ensures,
  λ commands packets from. hands_out_one (sending_of c.args.station.now) (sending_of c.next.new.station) commands
      packets
      c.next.new.packet from c.next.ensures,
)
