use Rattle.std.proofs.Common.{◌≡◌, ◌≢◌, ℕ, List, [], ◌∷◌, ◌++◌, sym, ◌∙◌, subst, append-nil}
use Rattle.dcc_wire.specs.declared.half.Half.{Half}
use Rattle.dcc_wire.specs.declared.seen.Seen.TheVariants.{Nothing}
use Rattle.dcc_wire.specs.contracts.kept.KeptFramer.{the_view}
use Rattle.dcc_wire.specs.Framing.{StandsFor, seen, report_at}
use Rattle.dcc_wire.specs.Half.{class_of}
use Rattle.dcc_wire.specs.Inner.Steps.{answer_to}
use Rattle.dcc_wire.specs.Kept.{Kept, IsKept, kept_rest}
use Rattle.dcc_wire.proofs.FramingLemmas.{seen-push}
use Rattle.dcc_wire.proofs.kept.KeptFramer.push_shown.Goals as goal

shown : (k : Kept) (us : ℕ) → IsKept k
    → ((durations : List ℕ) → StandsFor (kept_rest k) durations → seen (durations ++ us ∷ []) ≢ seen durations)
    → answer_to (kept_rest k) (class_of us) ≢ Nothing
unfolding StandsFor report_at
shown k us is changes nothing =
    let durations = is.history.0 in
    let stands = is.history.1 in
    changes durations stands (seen-push durations us ∙ rw (← stands, nothing) (append-nil (seen durations)))

-- the same of the framer that has these numbers inside
shows : (k now : Kept) (us : ℕ) (half : Half) → k ≡ now → IsKept k
    → ((durations : List ℕ) → StandsFor (kept_rest now) durations → seen (durations ++ us ∷ []) ≢ seen durations)
    → half ≡ class_of us → answer_to (kept_rest now) half ≢ Nothing
shows k now us half view is changes e =
    rw e (subst (λ (k : Kept). answer_to (kept_rest k) (class_of us) ≢ Nothing) view
    (shown k us is (rw (← view) at changes)))

pub take_apart-requires : goal.take_apart-requires
take_apart-requires c =
    shows (the_view c.self.inside) c.args.self.now c.args.us c.of.result c.self.view_is c.self.invariant c.requires
    c.of.ensures

pub returns-clause-something : goal.returns-clause-something
returns-clause-something c = λ nothing.
    shows (the_view c.self.inside) c.args.self.now c.args.us c.of.result c.self.view_is c.self.invariant c.requires
    c.of.ensures (sym c.take_apart.ensures.answer ∙ nothing)

pub returns-clause-hunts : goal.returns-clause-hunts
returns-clause-hunts c = c.take_apart.ensures.hunts (returns-clause-something c)
