use Rattle.std.proofs.Common.{◌∙◌, refl, sym}
use Rattle.dcc_c.proofs.BoardLemmas.{same_who}
use Rattle.dcc_c.proofs.board.new.Goals as goal

pub returns-in-Ok-clause-made : goal.returns-in-Ok-clause-made
returns-in-Ok-clause-made c h = (
  c.state.result,
  refl,
  same_who _ _ (sym c.state.ensures.who ∙ c.in-Ok.ensures.who)
      ∙ c.in_ok-new.ensures.ok,
  sym c.state.ensures.registers ∙ c.in-Ok.ensures.registers,
)
