use Rattle.std.proofs.Common.{ap, ◌∙◌, refl, arith}
use Rattle.dcc_c.specs.Readers.{reader_numbers}
use Rattle.dcc_c.proofs.reader.dcc_reader_new.Goals as goal

pub returns-in-Ok-clause-made : goal.returns-in-Ok-clause-made
returns-in-Ok-clause-made c is = (
  c.in-Ok.cv,
  c.in-Ok.ensures.ok,
  refl,
  record { few = omega arith; numbers = c.numbers.ensures ∙ ap reader_numbers c.new-in-Ok.ensures },
)
