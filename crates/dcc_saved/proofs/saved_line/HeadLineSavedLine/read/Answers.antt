use Rattle.std.proofs.Common.{◌≡◌, List, codes, Ok, inl, inr, arith}
use Rattle.std.proofs.lemmas.Bool.{cases_Bool}
use Rattle.std.proofs.lemmas.Grind.{common_steps}
use Rattle.dcc_packet.specs.Forms.{read_by}
use Rattle.dcc_packet.specs.Words.{Word, is_word}
use Rattle.dcc_saved.specs.declared.decoder_line.Head.{Head}
use Rattle.dcc_saved.specs.DecoderLines.{head_forms}
use Rattle.dcc_saved.specs.PossibleLines.{IsPossibleHead}
use Rattle.dcc_saved.proofs.saved_line.HeadLineSavedLine.read.Goals as goal

-- what such a line says may be
is_possible : (word : Word) (ws rest : List Word) (head : Head) → read_by head_forms word ws ≡ Ok (head, rest)
    → IsPossibleHead head
is_possible word ws rest head is = elim (cases_Bool (is_word word (codes "loco"))) [
  | inl e ↦ grind (arith, common_steps)
  | inr e ↦ grind (arith, common_steps)
]

pub returns-clause-fits : goal.returns-clause-fits
returns-clause-fits c = is_possible c.in_ok-word.word.now c.word.new.self _ _ c.in_ok-head.ensures
