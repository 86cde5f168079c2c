use Rattle.std.proofs.Common.{◌≡◌, ◌<◌, length, arith}
use Rattle.std.proofs.lemmas.Bool.Decides.{nat_tests}
use Rattle.dcc_wire.proofs.KeptLists.{kept_on}
use Rattle.dcc_wire.proofs.PassedBits.{adds_byte, adds_none, adds_packed, nine_small, part_packed, whole_packed}
use Rattle.dcc_wire.proofs.kept.KeptFramer.pass_byte.Goals as goal

pub returns-then-not-has_room-clause-bits : goal.returns-then-not-has_room-clause-bits
returns-then-not-has_room-clause-bits c = adds_none _

-- within a byte

pub returns-then-part-lt9-clause-bits : goal.returns-then-part-lt9-clause-bits
returns-then-part-lt9-clause-bits c =
    rw (← c.self.view_is) (adds_packed c.self.inside.bytes _ _ _ _ _ c.bits_of_byte-part.ensures.bits)

pub invariant_of-self : goal.invariant_of-self
invariant_of-self c =
    let known = rw (← c.self.view_is) at c.requires in
    let room : length c.self.inside.bytes < 6 = grind (arith, nat_tests) in
    let packed = part_packed _ _ (c.self.invariant.packed known.in_body) room c.if-part-lt9.true
    c.bits_of_byte-part.ensures.zero_first in
    kept_on _ _ c.self.invariant (record { in_body = known.in_body; whole = known.whole })
    (record { in_body = known.in_body; whole = known.whole }) packed
    (adds_packed c.self.inside.bytes _ _ _ _ _ c.bits_of_byte-part.ensures.bits)

pub returns-then-part-lt9-clause-is : goal.returns-then-part-lt9-clause-is
returns-then-part-lt9-clause-is c = invariant_of-self c

pub returns-then-part-lt9-clause-unfinished : goal.returns-then-part-lt9-clause-unfinished
returns-then-part-lt9-clause-unfinished c =
    let known = rw (← c.self.view_is) at c.requires in (invariant_of-self c).unfinished known.in_body

-- at the end of a byte

pub invariant_of-self-2 : goal.invariant_of-self-2
invariant_of-self-2 c =
    let known = rw (← c.self.view_is) at c.requires in
    let part = c.bits_of_byte-part.ensures in
    let nine : c.bits_of_byte-part.result.count ≡ 9 = omega (arith, part.part, c.if-part-lt9.false) in
    let room : length c.self.inside.bytes < 6 = grind (arith, nat_tests) in
    let bytes = c.self.inside.bytes in
    let small = nine_small _ _ nine part.zero_first in
    rw c.push.ensures
    (kept_on _ _ c.self.invariant (record { in_body = known.in_body; whole = known.whole })
    (record { in_body = known.in_body; whole = known.whole })
    (whole_packed c.bits_of_byte-part.result.shift (c.self.invariant.packed known.in_body) room small)
    (adds_byte bytes _ _ _ _ small (rw nine at (adds_packed bytes _ _ _ _ _ part.bits))))

pub returns-clause-is : goal.returns-clause-is
returns-clause-is c = invariant_of-self-2 c

pub returns-clause-bits : goal.returns-clause-bits
returns-clause-bits c =
    let part = c.bits_of_byte-part.ensures in
    let nine : c.bits_of_byte-part.result.count ≡ 9 = omega (arith, part.part, c.if-part-lt9.false) in
    let bytes = c.self.inside.bytes in
    rw (← c.self.view_is, c.push.ensures)
    (adds_byte bytes _ _ _ _ (nine_small _ _ nine part.zero_first)
    (rw nine at (adds_packed bytes _ _ _ _ _ part.bits)))

pub returns-clause-unfinished : goal.returns-clause-unfinished
returns-clause-unfinished c =
    let known = rw (← c.self.view_is) at c.requires in (invariant_of-self-2 c).unfinished known.in_body
