use Rattle.std.proofs.Common.{arith}
use Rattle.dcc_packet.proofs.BitLemmas.{bit_put, bit_cleared, shifted_one, with_bit-put, with_bit-cleared}
use Rattle.dcc_packet.proofs.cv.BitPlace.with_bit.Goals as goal

pub returns-then-one-clause-value : goal.returns-then-one-clause-value
returns-then-one-clause-value c =
    rw c.if-one.true
    (with_bit-put c.args.byte c.args.self.now.place (omega (arith, c.ranges.byte)) c.args.self.now.in_range)

pub returns-then-one-clause-bits : goal.returns-then-one-clause-bits
returns-then-one-clause-bits c k h =
    rw c.if-one.true
    (bit_put c.args.byte c.args.self.now.place _ k (shifted_one c.args.self.now.place c.args.self.now.in_range))

pub returns-else-one-clause-value : goal.returns-else-one-clause-value
returns-else-one-clause-value c =
    rw c.if-one.false
    (with_bit-cleared c.args.byte c.args.self.now.place (omega (arith, c.ranges.byte)) c.args.self.now.in_range)

pub returns-else-one-clause-bits : goal.returns-else-one-clause-bits
returns-else-one-clause-bits c k h =
    rw c.if-one.false (bit_cleared c.args.byte c.args.self.now.place k c.args.self.now.in_range h)
