use Rattle.std.proofs.Common.{arith, refl}
use Rattle.dcc_wire.proofs.KeptLists.{HasWholeBits, passes_bits}
use Rattle.dcc_wire.proofs.PassedBits.{adds_none, in_rest, rest_inside}
use Rattle.dcc_wire.proofs.kept.KeptFramer.pass_bits.Goals as goal

pub bytes-init : goal.bytes-init
bytes-init c =
    record {
      adds = adds_none _;
      unfinished = λ some. absurd (some refl);
      has = rw (← c.self.view_is) (record { in_body = c.if-not-self.false; whole = c.if-self.false });
      none = λ none. refl;
      is = rw (← c.self.view_is) c.self.invariant;
      inside = omega arith;
    }

pub returns-then-more-eq0-clause-passes : goal.returns-then-more-eq0-clause-passes
returns-then-more-eq0-clause-passes c = λ some.
    let same = c.pass_byte-more.ensures.left c.if-more-eq0.true in
    let before = c.bytes.invariant in
    let first : HasWholeBits c.args.self.now =
    rw (← c.self.view_is) (record { in_body = c.if-not-self.false; whole = c.if-self.false }) in
    rw same (passes_bits c.args.self.now c.bytes.self _ first before.has (before.unfinished some) before.adds)

pub bytes-preserved : goal.bytes-preserved
bytes-preserved c =
    let more = c.pass_byte-more.ensures in
    let before = c.bytes.invariant in record {
      adds = in_rest _ _ _ c.args.halves.now c.bytes.at c.pass_byte-more.result before.adds more.bits;
      unfinished = λ some. more.unfinished;
      has = record { in_body = more.in_body; whole = more.whole };
      none = λ none. absurd (omega (arith, none, c.if-more-eq0.false));
      is = more.is;
      inside = rest_inside c.args.halves.now c.bytes.at c.pass_byte-more.result before.inside more.count;
    }

pub returns-clause-passes : goal.returns-clause-passes
returns-clause-passes c = λ some.
    let before = c.bytes.invariant in
    let first : HasWholeBits c.args.self.now =
    rw (← c.self.view_is) (record { in_body = c.if-not-self.false; whole = c.if-self.false }) in
    passes_bits c.args.self.now c.bytes.self _ first before.has (before.unfinished some) before.adds
