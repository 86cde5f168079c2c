use Rattle.dcc_regs.proofs.InParts.{result-append}
use Rattle.dcc_regs.proofs.laws.result_in_parts.Goals as goal

pub returns : goal.returns
returns c = result-append
