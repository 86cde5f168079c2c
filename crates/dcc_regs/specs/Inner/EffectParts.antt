-- The fields of the effects of packets, compared and tested.
use Rattle.std.specs.Prelude.{ℕ, ◌≡◌, ◌⊎◌, None}
use Rattle.dcc_regs.specs.declared.effects.Effects.{Effects}
use Rattle.dcc_regs.specs.Effects.{Differ, masked_bit, where_one}

-- the effects `e` and `f` set some plain register of a locomotive decoder to different values
abbrev pub LocosDiffer : Effects → Effects → Type 0
LocosDiffer e f =
    Differ e.speed f.speed
    ⊎ (Differ e.direction f.direction
    ⊎ (((n : ℕ) × Differ (masked_bit e.functions.mask e.functions.bits n)
    (masked_bit f.functions.mask f.functions.bits n))
    ⊎ ((n : ℕ) × Differ (masked_bit e.states.mask e.states.bits n) (masked_bit f.states.mask f.states.bits n))))

-- the effects `e` and `f` set some register of an accessory decoder to different values
abbrev pub BoardsDiffer : Effects → Effects → Type 0
BoardsDiffer e f =
    ((n : ℕ) × Differ (masked_bit e.outs.mask e.outs.bits n) (masked_bit f.outs.mask f.outs.bits n))
    ⊎ (((n : ℕ) × Differ (masked_bit e.positions.mask e.positions.bits n)
    (masked_bit f.positions.mask f.positions.bits n))
    ⊎ ((n : ℕ) × Differ (where_one e.aspects.mask e.aspects.aspect n) (where_one f.aspects.mask f.aspects.aspect n)))

-- the effects `e` set no plain register of a locomotive decoder
pub record NothingAtLocos (e : Effects) : Type 0 where
  pub speed : e.speed ≡ None
  pub direction : e.direction ≡ None
  pub functions : (n : ℕ) → masked_bit e.functions.mask e.functions.bits n ≡ None
  pub states : (n : ℕ) → masked_bit e.states.mask e.states.bits n ≡ None

-- the effects `e` set no register of an accessory decoder
pub record NothingAtBoards (e : Effects) : Type 0 where
  pub outs : (n : ℕ) → masked_bit e.outs.mask e.outs.bits n ≡ None
  pub positions : (n : ℕ) → masked_bit e.positions.mask e.positions.bits n ≡ None
  pub aspects : (n : ℕ) → where_one e.aspects.mask e.aspects.aspect n ≡ None
