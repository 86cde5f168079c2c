-- The effect of the end of a right block on the state of a comparer.
use Rattle.std.specs.Prelude.{◌+◌, ◌≡◌, ◌⊎◌, Option}
use Rattle.dcc_packet.specs.declared.packet.Packet.{Packet}
use Rattle.dcc_order.specs.declared.comparison.Comparison.{Comparison}
use Rattle.dcc_order.specs.declared.verdict.Verdict.{Verdict}
use Rattle.dcc_order.specs.declared.wants.Wants.TheVariants.{Left, Done}
use Rattle.dcc_order.specs.AlikeLists.{AlikeBlocks}
use Rattle.dcc_order.specs.Held.{nothing_held}
use Rattle.dcc_order.specs.Comparisons.{EndAlike, IsVerdictAtEnds}

-- the end of the right block changes the comparison from `c` to `new`. The write `end` ends the
-- block, or the end of the right list, and then `end` is `None`. Either the verdict is decided, or
-- both blocks are alike and the next block of both lists begins.
abbrev pub EndsRight : Comparison → Option Packet → Comparison → Type 0
EndsRight c end new =
    ((v : Verdict) × IsVerdictAtEnds c.block c.held.first c.left_end c.held.second end v
    × (new ≡ record c { wants = Done v }))
    ⊎ (AlikeBlocks c.held.first c.held.second × EndAlike c.left_end end
    × (new ≡ record c { held = nothing_held; block = c.block + 1; wants = Left }))
