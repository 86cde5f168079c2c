-- What the last outcome leaves, after one more half-bit.
use Rattle.std.proofs.Common.{◌≡◌, ◌≢◌, ℕ, ◌+◌, ◌<◌, min, List, [], ◌∷◌, ◌++◌, length, Option, Some, None, refl}
use Rattle.std.proofs.Common.{ap, ◌∙◌, arith, append-nil, length-append, IfSome}
use Rattle.std.proofs.lemmas.List.Sums.{fold-append}
use Rattle.dcc_wire.specs.declared.seen.Seen.{Seen}
use Rattle.dcc_wire.specs.declared.seen.Seen.TheVariants.{Nothing, Packet, Refused}
use Rattle.dcc_wire.specs.Framing.{Rest, seen, StandsFor, report_at}
use Rattle.dcc_wire.proofs.OutcomeLemmas.{ones_left_le}
use Rattle.dcc_wire.proofs.SeenLemmas.{seen-none}
use Rattle.dcc_lost.specs.Unused.{last_outcome, unused_after, since_refusal, Hears}
use Rattle.dcc_lost.specs.Inner.{unused_next, since_next}

pub last_outcome-push : (outcomes : List (ℕ × Seen)) (outcome : ℕ × Seen)
    → last_outcome (outcomes ++ outcome ∷ []) ≡ Some outcome
unfolding last_outcome
last_outcome-push outcomes outcome = fold-append _ None outcomes (outcome ∷ [])

-- the figures of a last outcome in a list of so many half-bits
record Left (count unused : ℕ) (since : Option ℕ) (last : Option (ℕ × Seen)) : Type 0 where
  below : IfSome last (λ outcome. outcome.0 < count)
  left_unused : unused ≡ min 20 (unused_after count last)
  refused : since ≡ since_refusal count last

left_more : (count unused : ℕ) (since : Option ℕ) (last : Option (ℕ × Seen)) → Left count unused since last
    → Left (count + 1) (unused_next unused Nothing) (since_next since Nothing) last
unfolding unused_next since_next unused_after since_refusal
left_more count unused since None left = record {
  below = left.below;
  left_unused = omega (arith, left.left_unused);
  refused = rw left.refused;
}
left_more count unused since (Some (place, Nothing)) left = record {
  below = omega (arith, left.below);
  left_unused = omega (arith, left.left_unused, left.below);
  refused = rw left.refused;
}
left_more count unused since (Some (place, Packet bytes)) left = record {
  below = omega (arith, left.below);
  left_unused = omega (arith, left.left_unused, left.below);
  refused = rw left.refused;
}
left_more count unused since (Some (place, Refused fault)) left = record {
  below = omega (arith, left.below);
  left_unused = omega (arith, left.left_unused, left.below);
  refused = rw left.refused (ap Some (omega (arith, left.below)));
}

left_new : (count unused : ℕ) (since : Option ℕ) (answer : Seen) → answer ≢ Nothing
    → Left (count + 1) (unused_next unused answer) (since_next since answer) (Some (count, answer))
unfolding unused_next since_next unused_after since_refusal
left_new count unused since Nothing something = absurd (something refl)
left_new count unused since (Packet bytes) something = record {
  below = omega arith;
  left_unused = omega (arith, ones_left_le (Packet bytes));
  refused = refl;
}
left_new count unused since (Refused fault) something = record {
  below = omega arith;
  left_unused = omega (arith, ones_left_le (Refused fault));
  refused = ap Some (omega arith);
}

left_by : (answer : Seen) (outcomes : List (ℕ × Seen)) (count unused : ℕ) (since : Option ℕ)
    → Left count unused since (last_outcome outcomes)
    → Left (count + 1) (unused_next unused answer) (since_next since answer)
    (last_outcome (outcomes ++ report_at count answer))
unfolding report_at
left_by Nothing outcomes count unused since left =
    rw append-nil (left_more count unused since (last_outcome outcomes) left)
left_by (Packet bytes) outcomes count unused since left =
    rw last_outcome-push (left_new count unused since (Packet bytes) (λ e. cc))
left_by (Refused fault) outcomes count unused since left =
    rw last_outcome-push (left_new count unused since (Refused fault) (λ e. cc))

pub hears_more : (durations : List ℕ) (us : ℕ) (old new : Rest) (before after : ℕ) (since next : Option ℕ)
    (answer : Seen)
    → Hears old before since durations → StandsFor new (durations ++ us ∷ [])
    → seen (durations ++ us ∷ []) ≡ seen durations ++ report_at (length durations) answer
    → after ≡ unused_next before answer → next ≡ since_next since answer → Hears new after next (durations ++ us ∷ [])
hears_more durations us old new before after since next answer hears stands sees unused refused =
    let left =
    left_by answer (seen durations) (length durations) before since
    (record { below = hears.below; left_unused = hears.left_unused; refused = hears.refused }) in
    let count : length (durations ++ us ∷ []) ≡ length durations + 1 = length-append durations (us ∷ []) in
    record {
      stands = stands;
      below = rw (count, sees) left.below;
      left_unused = rw (count, sees) (unused ∙ left.left_unused);
      refused = rw (count, sees) (refused ∙ left.refused);
    }

pub hears_nothing : (framer : Rest) → StandsFor framer [] → Hears framer 0 None []
unfolding last_outcome unused_after since_refusal
hears_nothing framer stands = record {
  stands = stands;
  below = rw seen-none tt;
  left_unused = rw seen-none;
  refused = rw seen-none;
}
