use Rattle.std.proofs.Common.{drop, arith, length-drop}
use Rattle.dcc_timing.proofs.BitLemmas.{adding_none, adding_more, adding_all, next_pair}
use Rattle.dcc_timing.proofs.bits.Bits.add.Goals as goal

pub bits-init : goal.bits-init
bits-init c = record { within = omega arith; adding = adding_none c.args.self.now c.args.halves.now }

pub bits-preserved : goal.bits-preserved
bits-preserved c = record {
  within = omega (arith, c.bits-test.true);
  adding =
      adding_more c.args.self.now c.bits.self c.add_bit.new.self c.args.halves.now (drop c.bits.place c.args.halves.now)
      _ _ _
      (next_pair c.args.halves.now c.bits.place c.bits-test.true)
      c.add_bit.ensures.bits c.add_bit.ensures.count c.bits.invariant.adding;
}

pub returns-clause-bits : goal.returns-clause-bits
returns-clause-bits c =
    adding_all c.args.self.now c.bits.self c.args.halves.now (drop c.bits.place c.args.halves.now)
    (omega (arith, length-drop c.bits.place c.args.halves.now, c.bits-test.false)) c.bits.invariant.adding
