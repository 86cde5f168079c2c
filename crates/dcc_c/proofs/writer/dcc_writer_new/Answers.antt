use Rattle.std.proofs.Common.{ap, ◌∙◌, refl}
use Rattle.dcc_c.specs.Writers.{writer_numbers}
use Rattle.dcc_c.proofs.writer.dcc_writer_new.Goals as goal

pub returns-in-Ok-clause-made : goal.returns-in-Ok-clause-made
returns-in-Ok-clause-made c is = (
  c.in-Ok.cv,
  c.in-Ok.ensures.ok,
  refl,
  c.numbers.ensures ∙ ap writer_numbers c.new-in-Ok.ensures,
)
