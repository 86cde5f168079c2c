use Rattle.dcc_io.specs.Took.{Took}
use Rattle.std.proofs.Common.{◌≡◌}
use Rattle.dcc_io.proofs.input.Input.read_all.Given as goal

abbrev pub invariant-bytes : goal.invariant-bytes
invariant-bytes g l =
    Took (λ used. used ≡ l.bytes.items) l.initial.self l.self × (l.self.halves ≡ l.initial.self.halves)

abbrev pub decreases-bytes : goal.decreases-bytes
decreases-bytes g l = l.self.bytes
