-- What a framer holds comes of some list of halves.
use Rattle.std.proofs.Common.{◌≡◌, ℕ, List, [], ◌∷◌, ◌++◌, refl, arith, Option, ◌≢◌}
use Rattle.dcc_wire.specs.declared.half.Half.{Half}
use Rattle.dcc_wire.specs.declared.half.Half.TheVariants.{One, Zero, Bad}
use Rattle.dcc_wire.specs.declared.seen.Seen.{Seen}
use Rattle.dcc_wire.specs.declared.seen.Seen.TheVariants.{Nothing}
use Rattle.dcc_wire.specs.Framing.{Rest, Hunting, InBody, rest, StandsFor, starts_below, ones_before, ones_at_end}
use Rattle.dcc_wire.specs.Framing.{rest_at, hunting, used_up}
use Rattle.dcc_wire.specs.Half.{class_of}
use Rattle.dcc_wire.specs.Inner.Steps.{rest_after, answer_to, answer_of, left_of}
use Rattle.dcc_wire.specs.Outcomes.{ones_left, outcome_of}
use Rattle.dcc_wire.proofs.FramingLemmas.{rest-push}
use Rattle.dcc_wire.proofs.OutcomeLemmas.{outcome_of-something}

-- a half of each class, in microseconds
abbrev pub microseconds : Half → ℕ
microseconds One = 58
microseconds Zero = 100
microseconds Bad = 0

pub class_of-microseconds : (half : Half) → class_of (microseconds half) ≡ half
class_of-microseconds half = grind arith

abbrev pub HasHistory : Rest → Type 0
HasHistory framer = (durations : List ℕ) × StandsFor framer durations

pub stands_for_nothing : StandsFor (Hunting 0) []
unfolding StandsFor rest rest_at hunting starts_below used_up ones_at_end ones_before
stands_for_nothing = refl

-- one half more makes a longer history
pub history_more : (before : Rest) (half : Half) → HasHistory before → HasHistory (rest_after before half)
unfolding StandsFor
history_more before half history = (
  history.0 ++ microseconds half ∷ [],
  rw (rest-push, history.1, class_of-microseconds half),
)
