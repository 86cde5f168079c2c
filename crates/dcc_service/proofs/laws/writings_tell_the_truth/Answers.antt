use Rattle.dcc_service.proofs.WritingLemmas.{done_is_true, writings_are_done, kept_cvs_are_compared}
use Rattle.dcc_service.proofs.WritingLemmas.{writing_leaves_others}
use Rattle.dcc_service.proofs.laws.writings_tell_the_truth.Goals as goal

pub returns : goal.returns
returns c = record {
  done = done_is_true;
  writable = writings_are_done;
  kept = kept_cvs_are_compared;
  others = writing_leaves_others;
}
