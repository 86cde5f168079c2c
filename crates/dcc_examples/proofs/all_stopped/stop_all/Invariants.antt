use Rattle.std.proofs.Common.{◌≡◌, List, length}
use Rattle.dcc_packet.specs.declared.packet.Packet.{Packet}
use Rattle.dcc_regs.specs.Result.{HasHeard}
use Rattle.dcc_regs.specs.Safety.{can_move}
use Rattle.dcc_station.specs.Sending.{stopped}
use Rattle.dcc_station.specs.Stops.{RunsWithout}
use Rattle.dcc_examples.proofs.all_stopped.stop_all.Given as goal

abbrev pub invariant-packets : goal.invariant-packets
invariant-packets g l =
    (packets : List Packet) × RunsWithout can_move (stopped l.fn.station) packets l.station
    × HasHeard packets (g.D.Decoder.who l.fn.loco) (g.D.Decoder.registers l.fn.loco)
    (g.D.Decoder.who l.loco) (g.D.Decoder.registers l.loco)
    × (length packets ≡ l._n)
