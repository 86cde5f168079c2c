use Rattle.std.proofs.Common.{◌≡◌, ◌++◌, ◌+◌, List, cond, true}
use Rattle.dcc_packet.specs.declared.packet.Packet.{Packet}
use Rattle.dcc_order.specs.GivenLists.{MayFollow}
use Rattle.dcc_listen.proofs.side.pass_rest.Given as goal

abbrev pub invariant-packets : goal.invariant-packets
invariant-packets g l = record {
  open_side : g.S.Side.is_open l.side;
  stays : l.initial.progress.ended ≡ true → l.progress.ended ≡ true;
  took : (start : g.row.S.Denot) (packets : List Packet) → g.S.Side.took start l.initial.side packets l.initial.progress
      →
      (more : List Packet) × MayFollow l.initial.progress.ended more
      × g.S.Side.took start l.side (packets ++ more) l.progress;
}

abbrev pub decreases-packets : goal.decreases-packets
decreases-packets g l = g.S.Side.left l.side l.progress + cond l.progress.ended 0 1
