use Rattle.dcc_plain.proofs.PlainLaws.{one_plain_text}
use Rattle.dcc_plain.proofs.words.put_plain_text.Goals as goal

pub returns-clause-only : goal.returns-clause-only
returns-clause-only c = λ words is. one_plain_text c.args.frame.now words _ is c.put_words.ensures
