-- The functions of a locomotive that a station remembers. Bit n of a number `functions` is one if
-- function n is on.
use Rattle.std.specs.Prelude.{◌≡◌, ℕ, ◌==◌, ◌&&◌, nat_le, Bool, true, Some, if◌then◌else◌}
use Rattle.dcc_packet.specs.Bits.{is_one}
use Rattle.dcc_packet.specs.declared.functions.GroupBits.{GroupBits}
use Rattle.dcc_regs.specs.declared.register.Register.TheVariants.{Function}
use Rattle.dcc_regs.specs.declared.register.SpeedMode.{SpeedMode}
use Rattle.dcc_regs.specs.declared.register.SpeedMode.TheVariants.{Steps14, Steps28}
use Rattle.dcc_regs.specs.declared.register.Value.TheVariants.{Flag}
use Rattle.dcc_regs.specs.FunctionBits.{function_place}
use Rattle.dcc_regs.specs.Result.{RegisterMap}

-- the functions `new` are the functions `old`, but function `function` is on if `on` is true, and
-- otherwise off
abbrev pub IsTurned : ℕ → ℕ → Bool → ℕ → Type 0
IsTurned old function on new = (n : ℕ) → is_one new n ≡ (if n == function then on else is_one old n)

-- each bit of the function group `bits` is the state of its function in `functions`
abbrev pub HasStates : ℕ → GroupBits → Type 0
HasStates functions bits =
    (n place : ℕ) → function_place Steps28 bits.group n ≡ Some place → is_one bits.bits place ≡ is_one functions n

-- true if the packets of function groups set function `n` in speed mode `mode`. With 14 steps, the
-- packets of speeds set F0.
abbrev pub is_in_a_group : SpeedMode → ℕ → Bool
is_in_a_group Steps28 n = nat_le n 68
is_in_a_group Steps14 n = nat_le 1 n && nat_le n 68

-- a decoder with the registers `m` and the speed mode `mode` has the functions `functions`. Functions
-- that the packets of function groups do not set in this mode may differ.
abbrev pub HasFunctions : SpeedMode → ℕ → RegisterMap → Type 0
HasFunctions mode functions m =
    (n : ℕ) → is_in_a_group mode n ≡ true → m (Function n) ≡ Some (Flag (is_one functions n))
