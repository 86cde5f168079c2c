use Rattle.std.proofs.Common.{arith}
use Rattle.dcc_wire.proofs.RunLemmas.{two_more}
use Rattle.dcc_wire.proofs.framer.Framer.push_some.Goals as goal

pub returns-in-Some : goal.returns-in-Some
returns-in-Some c =
    let bit = c.in-Some.ensures in
    let two = two_more _ c.args.us c.of.ensures bit.first bit.after bit.answer in
    rw (← c.self.view_is)
    (record { stands = two.0; sees = two.1; before = two.2; some = omega arith; hunts = bit.hunts })
