use Rattle.std.proofs.Common.{◌≡◌, ◌≢◌, true, false, arith, ◌++◌, ◌∷◌, [], ◌∙◌, sym}
use Rattle.dcc_wire.specs.declared.seen.Seen.TheVariants.{Nothing}
use Rattle.dcc_lost.proofs.EndLemmas.{busy_none}
use Rattle.dcc_lost.proofs.FinderLemmas.{longest_is, unheard_frame}
use Rattle.dcc_lost.proofs.LostLemmas.{found_at, heard}
use Rattle.dcc_lost.proofs.figures.frame_lost.Goals as goal

pub returns-then-not-is_nothing : goal.returns-then-not-is_nothing
returns-then-not-is_nothing c = λ durations us are sees.
    let something : c.args.outcome.now ≢ Nothing = grind arith in
    heard durations us c.args.outcome.now sees something

pub returns-then-not-is_hunting : goal.returns-then-not-is_hunting
returns-then-not-is_hunting c = λ durations us are sees.
    let busy : c.is_hunting.result ≡ false = grind arith in
    sym (busy_none _ _ (sym (c.is_hunting.ensures (durations ++ us ∷ []) are) ∙ busy))
    ∙ found_at durations us c.args.outcome.now sees (c.is_nothing.ensures.0 (grind arith))

pub returns : goal.returns
returns c = λ durations us are sees.
    let hunts : c.is_hunting.result ≡ true = grind arith in
    longest_is (durations ++ us ∷ []) _ _ (c.recent.ensures (durations ++ us ∷ []) are) c.longest_frame_at_end.ensures
    ∙ sym (unheard_frame _ _ (sym (c.is_hunting.ensures (durations ++ us ∷ []) are) ∙ hunts))
    ∙ found_at durations us c.args.outcome.now sees (c.is_nothing.ensures.0 (grind arith))
