use Rattle.std.proofs.lemmas.Bool.Decides.{Decides-eqb}
use Rattle.dcc_c.proofs.PossibleNumbers.{step_of, stop_of}
use Rattle.dcc_c.proofs.loco_numbers.has_speed.Goals as goal

pub returns-then-mode-le1-clause-speed : goal.returns-then-mode-le1-clause-speed
returns-then-mode-le1-clause-speed c zero =
    stop_of c.args.mode c.args.step c.if-mode-le1.true ((Decides-eqb c.args.step 0).0 zero)

pub returns-clause-speed : goal.returns-clause-speed
returns-clause-speed c true = step_of c.args.mode c.args.step true
