-- The two columns of the table `group_functions`.
use Rattle.std.specs.Prelude.{ℕ}
use Rattle.dcc_packet.specs.declared.functions.Group.{Group}
use Rattle.dcc_regs.specs.FunctionBits.{group_functions}

-- the function in the lowest bit of a function group
abbrev pub first_function : Group → ℕ
first_function group = (group_functions group).0

-- the number of functions in the bits of a function group. F0 does not count.
abbrev pub count_of : Group → ℕ
count_of group = (group_functions group).1
