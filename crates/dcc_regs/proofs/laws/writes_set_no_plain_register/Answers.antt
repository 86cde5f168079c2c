use Rattle.dcc_regs.proofs.LawLemmas.{writes_set_no_plain_register}
use Rattle.dcc_regs.proofs.laws.writes_set_no_plain_register.Goals as goal

pub returns : goal.returns
returns c = writes_set_no_plain_register
