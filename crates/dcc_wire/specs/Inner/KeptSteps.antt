-- The effect of one half-bit that completes no outcome. The state of the framer is stored as plain
-- numbers.
use Rattle.std.specs.Prelude.{◌≡◌, ◌<◌, ◌⊎◌, Bool, false, true, length}
use Rattle.dcc_wire.specs.declared.half.Half.{Half}
use Rattle.dcc_wire.specs.declared.seen.Seen.TheVariants.{Nothing}
use Rattle.dcc_wire.specs.Inner.Steps.{rest_after, answer_to}
use Rattle.dcc_wire.specs.Kept.{Kept, IsKept, kept_rest}

-- the framer `k` took the first half-bit of `bit`. Its body is still unfinished after the second
-- half-bit of `bit`.
pub record FitsBehind (k : Kept) (bit : Bool) : Type 0 where
  pub has_first : k.has_first ≡ true
  pub same : k.first ≡ bit
  pub zero_first : k.count ≡ 0 → bit ≡ false
  pub room : length k.bytes < 6

-- the body of framer `k` is still unfinished after one more half-bit of `bit`. This half-bit is the
-- first or the second half-bit of a bit.
abbrev pub HasRoomFor : Kept → Bool → Type 0
HasRoomFor k bit = (k.has_first ≡ false) ⊎ FitsBehind k bit

-- `new` is the state of framer `k` after one more half-bit of class `half`, which completes no
-- outcome
pub record Grows (k : Kept) (half : Half) (new : Kept) : Type 0 where
  pub after : kept_rest new ≡ rest_after (kept_rest k) half
  pub answer : answer_to (kept_rest k) half ≡ Nothing
  pub is : IsKept new
