use Rattle.std.proofs.Common.{◌∙◌, sym}
use Rattle.dcc_examples.proofs.equal_again.hear_alike.Goals as goal

pub returns-clause-heard : goal.returns-clause-heard
returns-clause-heard c = rw (sym c.new.ensures.who, sym c.new.ensures.registers) c.hear_two.ensures.left

pub returns-clause-equal : goal.returns-clause-equal
returns-clause-equal c =
    c.hear_two.ensures.alike (c.new.ensures.who ∙ sym c.new-other.ensures.who)
    (c.new.ensures.registers ∙ sym c.new-other.ensures.registers) (rw c.new.ensures.who c.requires)
