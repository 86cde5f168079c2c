use Rattle.std.proofs.Common.{arith, refl}
use Rattle.dcc_timing.proofs.CoveredLemmas.{tally_covered}
use Rattle.dcc_timing.proofs.tally.Tally.add_covered.Goals as goal

pub returns-clause-tally : goal.returns-clause-tally
returns-clause-tally c = λ numbers more is all count total.
    tally_covered c.args.self.now _ numbers more c.requires.some is all (omega (arith, count, c.from.ensures))
    (omega (arith, total, c.from-2.ensures)) refl refl
