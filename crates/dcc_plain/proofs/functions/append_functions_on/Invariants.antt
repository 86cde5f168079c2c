use Rattle.std.proofs.Common.{◌-◌, ◌≤◌, ◌+◌, ◌*◌}
use Rattle.arrayvec.specs.ArrayVec.{array_vec_len}
use Rattle.dcc_plain.proofs.FunctionLemmas.{Named}
use Rattle.dcc_plain.proofs.functions.append_functions_on.Given as goal

abbrev pub invariant-functions : goal.invariant-functions
invariant-functions l =
    (l.passed ≤ l.count) × (array_vec_len l.text ≤ array_vec_len l.initial.text + 5 * l.passed)
    × Named l.bits l.first l.passed l.initial.text.items l.text.items l.has_name

abbrev pub decreases-functions : goal.decreases-functions
decreases-functions l = l.count - l.passed
