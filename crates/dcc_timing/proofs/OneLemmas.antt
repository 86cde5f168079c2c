-- Half-bits of ones, in a list and between two bodies.
use Rattle.std.proofs.Common.{◌≡◌, ℕ, ◌+◌, ◌<◌, List, [], ◌∷◌, ◌++◌, length, take, get_or}
use Rattle.std.proofs.Common.{true, refl, append-nil, ◌∙◌}
use Rattle.std.proofs.lemmas.List.{take_more}
use Rattle.dcc_wire.specs.declared.half.Half.TheVariants.{One}
use Rattle.dcc_wire.specs.declared.seen.Seen.TheVariants.{Nothing}
use Rattle.dcc_wire.specs.Framing.{Rest, Hunting, InBody, is_hunting, report_at, rest, seen}
use Rattle.dcc_wire.specs.Half.{class_of}
use Rattle.dcc_wire.specs.Inner.Steps.{answer_to, rest_after}
use Rattle.dcc_wire.proofs.FramingLemmas.{rest-push, seen-push}
use Rattle.dcc_timing.specs.Ones.{AllOnes}

ones_behind : (halves : List ℕ) (us : ℕ) → AllOnes halves → class_of us ≡ One → AllOnes (halves ++ us ∷ [])
unfolding AllOnes
ones_behind [] us all one = (one, tt)
ones_behind (first ∷ halves) us all one = (all.0, ones_behind halves us all.1 one)

pub ones_more : (halves : List ℕ) (at : ℕ) → at < length halves → AllOnes (take at halves)
    → class_of (get_or halves at 0) ≡ One → AllOnes (take (at + 1) halves)
ones_more halves at inside all one = rw (take_more halves at 0 inside) (ones_behind (take at halves) _ all one)

-- a half-bit of a one between two bodies

hunts_after : (framer : Rest) → is_hunting framer ≡ true
    → (is_hunting (rest_after framer One) ≡ true) × (answer_to framer One ≡ Nothing)
unfolding rest_after answer_to
hunts_after (Hunting ones) hunts = (refl, refl)
hunts_after (InBody halves) hunts = absurd (let never = hunts in cc)

module _ (durations : List ℕ) (us : ℕ) (one : class_of us ≡ One) (hunts : is_hunting (rest durations) ≡ true) where
  pub hunts_on : is_hunting (rest (durations ++ us ∷ [])) ≡ true
  hunts_on = rw (rest-push durations us, one) (hunts_after (rest durations) hunts).0

  pub quiet_one : seen (durations ++ us ∷ []) ≡ seen durations
  unfolding report_at
  quiet_one =
      let none : answer_to (rest durations) (class_of us) ≡ Nothing =
      rw one (hunts_after (rest durations) hunts).1 in
      seen-push durations us ∙ rw none (append-nil (seen durations))
