use Rattle.dcc_service.proofs.WritingLemmas.{writing_begins, writing_goes_on, done_is_written, failed_is_kept}
use Rattle.dcc_service.proofs.laws.writings_under_way.Goals as goal

pub returns : goal.returns
returns c = record {
  begins = writing_begins;
  goes_on = writing_goes_on;
  done = done_is_written;
  failed = failed_is_kept;
}
