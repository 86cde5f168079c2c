use Rattle.std.proofs.Common.{refl}
use Rattle.dcc_station.proofs.FunctionLemmas.{decoder_follows}
use Rattle.dcc_station.proofs.functions.Functions.turn.Goals as goal

pub returns-clause-group : goal.returns-clause-group
returns-clause-group c = (
  c.states_of-bits.result,
  refl,
  rw c.states_of-bits.ensures.group c.in_ok-group.ensures.group,
  c.states_of-bits.ensures.states,
)

pub returns-clause-decoder : goal.returns-clause-decoder
returns-clause-decoder c =
    decoder_follows c.args.to c.states_of-bits.result c.args.self.now.on c.args.function
    c.with_function-self.result c.args.on
    (rw c.states_of-bits.ensures.group c.in_ok-group.ensures.group) c.states_of-bits.ensures.states
    c.with_function-self.ensures
