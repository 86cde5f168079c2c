use Rattle.dcc_regs.proofs.MaskLemmas.{words_differ, differing_words, not_equal, is_not_equal}
use Rattle.dcc_regs.proofs.masked.Masked.differs_from.Goals as goal

pub returns : goal.returns
returns c = (
  λ t. words_differ _ _ _ _ (not_equal _ _ t),
  λ d. is_not_equal _ _ (differing_words c.args.self.now.mask c.args.other.now.mask c.args.self.now.bits
      c.args.other.now.bits d),
)
