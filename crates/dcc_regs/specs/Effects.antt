-- The effects of a packet: the plain registers that it sets, with their values.
use Rattle.std.specs.Prelude.{ℕ, ◌≢◌, Bool, Option, None, Some, option_map, if◌then◌else◌}
use Rattle.dcc_packet.specs.Bits.{is_one}
use Rattle.dcc_regs.specs.declared.effects.Effects.{Effects}
use Rattle.dcc_regs.specs.declared.register.Register.{Register}
use Rattle.dcc_regs.specs.declared.register.Register.TheVariants.{Speed as SpeedRegister, Direction, Function}
use Rattle.dcc_regs.specs.declared.register.Register.TheVariants.{State as StateRegister, Out, Position, Aspect}
use Rattle.dcc_regs.specs.declared.register.Value.{Value}
use Rattle.dcc_regs.specs.declared.register.Value.TheVariants.{Speed as SpeedValue, Forward, Flag, Number}
use Rattle.dcc_regs.specs.Outputs.{side}

-- `value` if bit `n` of `mask` is one, otherwise `None`
abbrev pub where_one : {A : Type 0} → ℕ → A → ℕ → Option A
where_one mask value n = if is_one mask n then Some value else None

-- bit `n` of `bits` if bit `n` of `mask` is one, otherwise `None`
abbrev pub masked_bit : ℕ → ℕ → ℕ → Option Bool
masked_bit mask bits n = where_one mask (is_one bits n) n

-- the value to which the effects `e` set a register, or `None` if `e` do not set this register
abbrev pub effect_on : Effects → Register → Option Value
effect_on e SpeedRegister = option_map SpeedValue e.speed
effect_on e Direction = option_map Forward e.direction
effect_on e (Function n) = option_map Flag (masked_bit e.functions.mask e.functions.bits n)
effect_on e (StateRegister n) = option_map Flag (masked_bit e.states.mask e.states.bits n)
effect_on e (Out n) = option_map Flag (masked_bit e.outs.mask e.outs.bits n)
effect_on e (Position n) = option_map side (masked_bit e.positions.mask e.positions.bits n)
effect_on e (Aspect n) = option_map Number (where_one e.aspects.mask e.aspects.aspect n)
effect_on e r = None

-- `a` and `b` both have a value, and these values are different
abbrev pub Differ : {A : Type 0} → Option A → Option A → Type 0
Differ (Some v) (Some w) = v ≢ w
Differ a b = ⊥
