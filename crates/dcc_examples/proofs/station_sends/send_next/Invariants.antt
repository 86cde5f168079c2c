use Rattle.dcc_wire.specs.HalvesLeft.{halves_left}
use Rattle.dcc_order.specs.SentHalves.{IsBeingSent}
use Rattle.dcc_examples.specs.Rails.{sent_as}
use Rattle.dcc_examples.proofs.station_sends.send_next.Given as goal

abbrev pub invariant-loop-us : goal.invariant-loop-us
invariant-loop-us l = IsBeingSent l.fn.rails (sent_as l.packet) (halves_left l.us-iterator) l.rails l.heard
