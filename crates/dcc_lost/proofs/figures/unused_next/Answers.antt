use Rattle.std.proofs.Common.{◌≡◌, ◌≢◌, true, false, arith, ◌++◌, ◌∷◌, [], ◌∙◌, sym}
use Rattle.dcc_wire.specs.declared.seen.Seen.TheVariants.{Nothing}
use Rattle.dcc_wire.proofs.OutcomeLemmas.{ones_left_le}
use Rattle.dcc_lost.proofs.LostLemmas.{nothing_seen}
use Rattle.dcc_lost.proofs.PreambleLemmas.{unused_busy, unused_quiet, unused_shown}
use Rattle.dcc_lost.proofs.figures.unused_next.Goals as goal

pub returns-then-not-hunts : goal.returns-then-not-hunts
returns-then-not-hunts c = λ durations us is sees hunting.
    let busy : c.args.hunts ≡ false = grind arith in
    omega (arith, unused_busy (durations ++ us ∷ []) (sym hunting ∙ busy))

pub returns-then-is_nothing : goal.returns-then-is_nothing
returns-then-is_nothing c = λ durations us is sees hunting.
    let hunts : c.args.hunts ≡ true = grind arith in
    let same = nothing_seen durations us c.args.outcome.now sees (c.is_nothing.ensures.0 (grind arith)) in
    omega (arith, c.saturating_add.ensures, is, unused_quiet durations us same (sym hunting ∙ hunts))

pub returns : goal.returns
returns c = λ durations us is sees hunting.
    let hunts : c.args.hunts ≡ true = grind arith in
    let something : c.args.outcome.now ≢ Nothing = grind arith in
    omega (
      arith,
      c.ones_left.ensures something,
      ones_left_le c.args.outcome.now,
      unused_shown durations us c.args.outcome.now sees something (sym hunting ∙ hunts),
    )
