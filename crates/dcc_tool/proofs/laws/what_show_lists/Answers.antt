use Rattle.dcc_tool.proofs.ListedText.{show_lists_the_text}
use Rattle.dcc_tool.proofs.laws.what_show_lists.Goals as goal

pub returns : goal.returns
returns c = show_lists_the_text
