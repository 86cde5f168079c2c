use Rattle.dcc_listen.proofs.RunLemmas.{Hearing}
use Rattle.dcc_listen.proofs.run_call.play.Given as goal

abbrev pub invariant-runs : goal.invariant-runs
invariant-runs g l =
    Hearing (λ decoder. let is = goal.Decoder-dyn g (decoder.vtable, decoder.value) in
    (is.who decoder.value, is.registers decoder.value)) l.fn.input l.fn.decoders l.input l.framer l.decoders

abbrev pub decreases-runs : goal.decreases-runs
decreases-runs g l = l.input.bytes
