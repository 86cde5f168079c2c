use Rattle.std.proofs.Common.{◌≡◌, ◌<◌, ℕ}
use Rattle.std.specs.Prelude.{slice_index_or}
use Rattle.dcc_regs.specs.Conflict.{Conflict}
use Rattle.dcc_packet.specs.declared.packet.Packet.{Packet}
use Rattle.dcc_order.specs.declared.turns.Turns.{Turns}
use Rattle.dcc_order.proofs.numbered_blocks.same_turns_at.Given as goal

abbrev pub invariant-loop-rival : goal.invariant-loop-rival
invariant-loop-rival l = (rival : ℕ) (d e : Packet) (t : Turns) → rival < l.rival →
    Conflict (slice_index_or l.members l.own d) (slice_index_or l.members rival e)
    → slice_index_or l.left rival t ≡ slice_index_or l.right rival t
