use Rattle.std.proofs.Common.{◌≡◌, true, false, sym, ◌∙◌, arith}
use Rattle.dcc_lost.proofs.EndLemmas.{no_frame_recent, busy_none, quiet_none}
use Rattle.dcc_lost.proofs.finder.LostFinder.can_end_packet.Goals as goal

pub returns-then-not-is_hunting-clause-no : goal.returns-then-not-is_hunting-clause-no
returns-then-not-is_hunting-clause-no c = λ durations read no.
    let busy : c.is_hunting.result ≡ false = grind arith in
    busy_none _ _ (sym c.is_hunting.ensures ∙ busy)

pub returns-clause-no : goal.returns-clause-no
returns-clause-no c = λ durations read no.
    quiet_none _ _
    (no_frame_recent durations _ _ read.recent c.last.ensures
    (λ has. let yes = c.has_start_bits.ensures.1 has in absurd (grind arith)))

pub returns-clause-yes : goal.returns-clause-yes
returns-clause-yes c = λ yes.
    let hunts : c.is_hunting.result ≡ true = grind arith in
    sym c.is_hunting.ensures ∙ hunts
