use Rattle.dcc_order.proofs.AlikeCuts.{alike_after_each_block}
use Rattle.dcc_order.proofs.laws.alike_lists_agree_after_each_block.Goals as goal

pub returns : goal.returns
returns c = alike_after_each_block
