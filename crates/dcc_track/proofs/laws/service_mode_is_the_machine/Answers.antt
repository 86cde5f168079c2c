use Rattle.dcc_track.proofs.MachineLemmas.{reset_enters_the_machine, service_mode_is_the_machine}
use Rattle.dcc_track.proofs.laws.service_mode_is_the_machine.Goals as goal

pub returns-clause-lasts : goal.returns-clause-lasts
returns-clause-lasts c = service_mode_is_the_machine

pub returns-clause-begins : goal.returns-clause-begins
returns-clause-begins c = reset_enters_the_machine
