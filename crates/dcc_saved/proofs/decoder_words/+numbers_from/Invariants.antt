use Rattle.std.proofs.Common.{length}
use Rattle.dcc_saved.proofs.decoder_words.+numbers_from.Given as goal

abbrev pub decreases-numbers_from : goal.decreases-numbers_from
decreases-numbers_from l = length l.words.now
