use Rattle.dcc_saved.proofs.FleetLemmas.{WroteUpTo}
use Rattle.dcc_saved.proofs.fleet_text.write_fleet.Given as goal

abbrev pub invariant-loop-decoder : goal.invariant-loop-decoder
invariant-loop-decoder g l =
    WroteUpTo
    (λ decoder. let is = goal.Decoder-dyn g (decoder.vtable, decoder.value) in
    (is.who decoder.value, is.registers decoder.value))
    (g.W.Sink.state l.fn.writer) l.decoders l.decoder-index (g.W.Sink.state l.writer)
