use Rattle.std.proofs.Common.{◌≡◌, false, arith, ◌++◌, ◌∷◌, [], ◌∙◌, refl, sym}
use Rattle.dcc_wire.specs.declared.seen.Seen.TheVariants.{Nothing}
use Rattle.dcc_lost.proofs.EndLemmas.{busy_none, no_frame_recent, quiet_none}
use Rattle.dcc_lost.proofs.LawLemmas.{frame_other}
use Rattle.dcc_lost.proofs.LostLemmas.{found_at, shows_nothing}
use Rattle.dcc_lost.proofs.figures.can_lose_packet.Goals as goal

pub returns-then-not-is_nearest_one : goal.returns-then-not-is_nearest_one
returns-then-not-is_nearest_one c = λ durations are same no.
    sym (frame_other durations c.args.us (grind arith))

pub returns-then-not-is_hunting : goal.returns-then-not-is_hunting
returns-then-not-is_hunting c = λ durations are same no.
    let busy : c.is_hunting.result ≡ false = grind arith in
    sym (found_at durations c.args.us Nothing (shows_nothing durations c.args.us same) refl)
    ∙ busy_none _ _ (sym (c.is_hunting.ensures (durations ++ c.args.us ∷ []) are) ∙ busy)

pub returns : goal.returns
returns c = λ durations are same no.
    sym (found_at durations c.args.us Nothing (shows_nothing durations c.args.us same) refl)
    ∙ quiet_none _ _
    (no_frame_recent (durations ++ c.args.us ∷ []) _ _ (c.recent.ensures (durations ++ c.args.us ∷ []) are)
    c.last.ensures
    (λ has. let yes = c.has_start_bits.ensures.1 has in absurd (grind arith)))
