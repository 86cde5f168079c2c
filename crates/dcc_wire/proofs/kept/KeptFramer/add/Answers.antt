use Rattle.std.proofs.Common.{◌∙◌}
use Rattle.dcc_wire.proofs.BitLemmas.{half_of}
use Rattle.dcc_wire.proofs.ByteBits.{byte_of_bool}
use Rattle.dcc_wire.proofs.KeptLemmas.{bit_of-half_of, byte_added, first_comes, second_added}
use Rattle.dcc_wire.proofs.kept.KeptFramer.add.Goals as goal

-- the first half of a bit

pub returns-then-not-self : goal.returns-then-not-self
returns-then-not-self c =
    let known = rw (← c.self.view_is) at c.requires in
    rw (← c.self.view_is) (λ half of. first_comes c.self.invariant known.in_body half c.args.bit of c.if-not-self.true)

pub invariant_of-self : goal.invariant_of-self
invariant_of-self c = (returns-then-not-self c (half_of c.args.bit) (bit_of-half_of c.args.bit)).is

-- the second, within a byte

pub returns-then-self-lt8 : goal.returns-then-self-lt8
returns-then-self-lt8 c =
    let known = rw (← c.self.view_is) at c.requires in
    rw (← c.self.view_is)
    (λ half of. second_added c.self.invariant known.in_body half c.args.bit of c.if-not-self.false known.room
    (c.from.ensures ∙ byte_of_bool c.args.bit) c.if-self-lt8.true)

pub invariant_of-self-then-self-lt8 : goal.invariant_of-self-then-self-lt8
invariant_of-self-then-self-lt8 c = (returns-then-self-lt8 c (half_of c.args.bit) (bit_of-half_of c.args.bit)).is

-- the second, at the end of a byte

pub returns-else-self-lt8 : goal.returns-else-self-lt8
returns-else-self-lt8 c =
    let known = rw (← c.self.view_is) at c.requires in
    rw (← c.self.view_is)
    (λ half of. byte_added c.self.invariant known.in_body half c.args.bit of c.if-not-self.false known.room
    (c.from.ensures ∙ byte_of_bool c.args.bit) c.if-self-lt8.false c.push.ensures)

pub invariant_of-self-else-self-lt8 : goal.invariant_of-self-else-self-lt8
invariant_of-self-else-self-lt8 c = (returns-else-self-lt8 c (half_of c.args.bit) (bit_of-half_of c.args.bit)).is
