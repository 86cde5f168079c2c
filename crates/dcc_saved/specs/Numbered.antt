-- The lines that list all registers of a kind that are on: functions, binary states, outputs.
use Rattle.std.specs.Prelude.{ℕ, List, codes}
use Rattle.dcc_regs.specs.declared.register.Register.{Register}
use Rattle.dcc_regs.specs.declared.register.Register.TheVariants as registers
use Rattle.dcc_saved.specs.declared.decoder_line.Numbered.{Numbered}
use Rattle.dcc_saved.specs.declared.decoder_line.Numbered.TheVariants.{Function, State, Out}

-- the first word of the line that lists the registers of a kind
abbrev pub name_of : Numbered → List ℕ
name_of Function = codes "on"
name_of State = codes "states"
name_of Out = codes "out"

-- one more than the greatest number of a kind: 69 for functions, 128 for binary states, 8 for
-- outputs
abbrev pub end_of : Numbered → ℕ
end_of Function = 69
end_of State = 128
end_of Out = 8

abbrev pub register_of : Numbered → ℕ → Register
register_of Function n = registers.Function n
register_of State n = registers.State n
register_of Out n = registers.Out n
