-- The effects of a packet, register by register.
use Rattle.std.proofs.Common.{◌≡◌, ℕ, Bool, true, false, refl, sym, ◌∙◌, ap}
use Rattle.std.specs.Prelude.{◌⊎◌, Option, None, Some, option_map}
use mathlib.Core.Logic.{inl, inr}
use Rattle.dcc_packet.specs.declared.packet.Packet.{Packet}
use Rattle.dcc_regs.specs.declared.effects.Effects.{Effects}
use Rattle.dcc_regs.specs.declared.register.SpeedMode.{SpeedMode}
use Rattle.dcc_regs.specs.declared.register.SpeedMode.TheVariants.{Steps14, Steps28}
use Rattle.dcc_regs.specs.declared.register.Register.{Register}
use Rattle.dcc_regs.specs.declared.register.Register.TheVariants.{Speed as SpeedRegister, Direction, Function}
use Rattle.dcc_regs.specs.declared.register.Register.TheVariants.{State as StateRegister, Out, Position, Aspect}
use Rattle.dcc_regs.specs.declared.register.Value.{Value}
use Rattle.dcc_regs.specs.declared.register.Value.TheVariants.{Speed as SpeedValue, Forward, Flag, Number}
use Rattle.dcc_regs.specs.Speeds.{speed_set, direction_set}
use Rattle.dcc_regs.specs.FunctionBits.{function_set}
use Rattle.dcc_regs.specs.States.{state_set}
use Rattle.dcc_regs.specs.Outputs.{out_set, position_set, aspect_set, side}
use Rattle.dcc_regs.specs.Sets.{sets, SetsNothing}
use Rattle.dcc_regs.specs.Effects.{Differ, effect_on, masked_bit, where_one}
use Rattle.dcc_regs.specs.Inner.SetsByKind.{sets_by_kind}
use Rattle.dcc_regs.proofs.OneTable.{same_table}
use Rattle.dcc_regs.specs.Inner.EffectParts.{BoardsDiffer, LocosDiffer, NothingAtBoards, NothingAtLocos}

-- each field has what a packet sets
pub record Has (e : Effects) (mode : SpeedMode) (p : Packet) : Type 0 where
  pub speed : e.speed ≡ speed_set mode p
  pub direction : e.direction ≡ direction_set p
  pub functions : (n : ℕ) → masked_bit e.functions.mask e.functions.bits n ≡ function_set mode p n
  pub states : (n : ℕ) → masked_bit e.states.mask e.states.bits n ≡ state_set p n
  pub outs : (n : ℕ) → masked_bit e.outs.mask e.outs.bits n ≡ out_set p n
  pub positions : (n : ℕ) → masked_bit e.positions.mask e.positions.bits n ≡ position_set p n
  pub aspects : (n : ℕ) → where_one e.aspects.mask e.aspects.aspect n ≡ aspect_set p n

by_kind : (e : Effects) (mode : SpeedMode) (p : Packet) → Has e mode p → (r : Register)
    → effect_on e r ≡ sets_by_kind mode p r
by_kind e mode p h SpeedRegister = ap (option_map SpeedValue) h.speed
by_kind e mode p h Direction = ap (option_map Forward) h.direction
by_kind e mode p h (Function n) = ap (option_map Flag) (h.functions n)
by_kind e mode p h (StateRegister n) = ap (option_map Flag) (h.states n)
by_kind e mode p h (Out n) = ap (option_map Flag) (h.outs n)
by_kind e mode p h (Position n) = ap (option_map side) (h.positions n)
by_kind e mode p h (Aspect n) = ap (option_map Number) (h.aspects n)
by_kind e mode p h r = refl

pub by_register : (e : Effects) (mode : SpeedMode) (p : Packet) → Has e mode p → (r : Register)
    → effect_on e r ≡ sets mode p r
by_register e mode p h r = by_kind e mode p h r ∙ sym (same_table mode p r)

-- values that differ, as values of a register
wrapped : {A : Type 0} (wrap : A → Value) → ((a b : A) → wrap a ≡ wrap b → a ≡ b) → (o q : Option A) → Differ o q
    → Differ (option_map wrap o) (option_map wrap q)
wrapped wrap one (Some a) (Some b) d = λ e. d (one a b e)
wrapped wrap one (Some a) None d = absurd d
wrapped wrap one None q d = absurd d

unwrapped : {A : Type 0} (wrap : A → Value) (o q : Option A) → Differ (option_map wrap o) (option_map wrap q)
    → Differ o q
unwrapped wrap (Some a) (Some b) d = λ e. d (ap wrap e)
unwrapped wrap (Some a) None d = absurd d
unwrapped wrap None q d = absurd d

one_side : (a b : Bool) → side a ≡ side b → a ≡ b
one_side true true e = refl
one_side false false e = refl
one_side true false e = absurd (cc)
one_side false true e = absurd (cc)

abbrev pub DifferSomewhere : Effects → Effects → Type 0
DifferSomewhere e f = (r : Register) × Differ (effect_on e r) (effect_on f r)

pub at_locos : (e f : Effects) → LocosDiffer e f → DifferSomewhere e f
at_locos e f (inl d) = (SpeedRegister, wrapped SpeedValue (λ a b same. cc) e.speed f.speed d)
at_locos e f (inr (inl d)) = (Direction, wrapped Forward (λ a b same. cc) e.direction f.direction d)
at_locos e f (inr (inr (inl d))) = (Function d.0, wrapped Flag (λ a b same. cc) _ _ d.1)
at_locos e f (inr (inr (inr d))) = (StateRegister d.0, wrapped Flag (λ a b same. cc) _ _ d.1)

pub at_boards : (e f : Effects) → BoardsDiffer e f → DifferSomewhere e f
at_boards e f (inl d) = (Out d.0, wrapped Flag (λ a b same. cc) _ _ d.1)
at_boards e f (inr (inl d)) = (Position d.0, wrapped side one_side _ _ d.1)
at_boards e f (inr (inr d)) = (Aspect d.0, wrapped Number (λ a b same. cc) _ _ d.1)

pub somewhere : (e f : Effects) (r : Register) → Differ (effect_on e r) (effect_on f r)
    → LocosDiffer e f ⊎ BoardsDiffer e f
somewhere e f SpeedRegister d = inl (inl (unwrapped SpeedValue e.speed f.speed d))
somewhere e f Direction d = inl (inr (inl (unwrapped Forward e.direction f.direction d)))
somewhere e f (Function n) d = inl (inr (inr (inl (n, unwrapped Flag _ _ d))))
somewhere e f (StateRegister n) d = inl (inr (inr (inr (n, unwrapped Flag _ _ d))))
somewhere e f (Out n) d = inr (inl (n, unwrapped Flag _ _ d))
somewhere e f (Position n) d = inr (inr (inl (n, unwrapped side _ _ d)))
somewhere e f (Aspect n) d = inr (inr (inr (n, unwrapped Number _ _ d)))
somewhere e f r d = absurd d

-- no register is set
nothing_in : {A : Type 0} (wrap : A → Value) (o : Option A) → option_map wrap o ≡ None → o ≡ None
nothing_in wrap None e = refl
nothing_in wrap (Some a) e = absurd (cc)

pub nothing_set : (e : Effects) → NothingAtLocos e → NothingAtBoards e → (r : Register) → effect_on e r ≡ None
nothing_set e l b SpeedRegister = ap (option_map SpeedValue) l.speed
nothing_set e l b Direction = ap (option_map Forward) l.direction
nothing_set e l b (Function n) = ap (option_map Flag) (l.functions n)
nothing_set e l b (StateRegister n) = ap (option_map Flag) (l.states n)
nothing_set e l b (Out n) = ap (option_map Flag) (b.outs n)
nothing_set e l b (Position n) = ap (option_map side) (b.positions n)
nothing_set e l b (Aspect n) = ap (option_map Number) (b.aspects n)
nothing_set e l b r = refl

pub none_at_locos : (e : Effects) → ((r : Register) → effect_on e r ≡ None) → NothingAtLocos e
none_at_locos e none = record {
  speed = nothing_in SpeedValue e.speed (none SpeedRegister);
  direction = nothing_in Forward e.direction (none Direction);
  functions = λ n. nothing_in Flag _ (none (Function n));
  states = λ n. nothing_in Flag _ (none (StateRegister n));
}

pub none_at_boards : (e : Effects) → ((r : Register) → effect_on e r ≡ None) → NothingAtBoards e
none_at_boards e none = record {
  outs = λ n. nothing_in Flag _ (none (Out n));
  positions = λ n. nothing_in side _ (none (Position n));
  aspects = λ n. nothing_in Number _ (none (Aspect n));
}

pub in_both_modes : (e f : Effects) (p : Packet) → ((r : Register) → effect_on e r ≡ sets Steps28 p r)
    → ((r : Register) → effect_on f r ≡ sets Steps14 p r) → ((r : Register) → effect_on e r ≡ None)
    → ((r : Register) → effect_on f r ≡ None) → SetsNothing p
in_both_modes e f p of_e of_f none nothing Steps28 r = sym (of_e r) ∙ none r
in_both_modes e f p of_e of_f none nothing Steps14 r = sym (of_f r) ∙ nothing r
