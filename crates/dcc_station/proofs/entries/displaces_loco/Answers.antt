use Rattle.std.proofs.Common.{◌∙◌, sym}
use Rattle.dcc_station.proofs.LeftToldRight.{ended_or_left}
use Rattle.dcc_station.proofs.entries.displaces_loco.Goals as goal

pub returns-in-Some : goal.returns-in-Some
returns-in-Some c =
    ended_or_left c.args.command.now c.args.to.now c.args.what.now c.in-Some.left (sym c.is_left.ensures ∙ c.in-Some.is)
