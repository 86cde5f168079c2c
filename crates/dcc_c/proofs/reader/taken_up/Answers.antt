use Rattle.std.proofs.Common.{◌≡◌, ap, ◌∙◌}
use Rattle.std.specs.Result.{result_ok}
use Rattle.dcc_packet.specs.declared.cv.CvNumber.{CvNumber}
use Rattle.dcc_packet.specs.declared.fault.PacketFault.{PacketFault}
use Rattle.dcc_c.proofs.ApplyLemmas.{ok_of}
use Rattle.dcc_c.proofs.ReaderLemmas.{IsTakenUp, taken_is_reading, reading_is_taken}
use Rattle.dcc_c.proofs.reader.taken_up.Goals as goal
use Rattle.dcc_c.proofs.reader.taken_up.Goals.{After-restore}

is_taken_up : (c : After-restore) → IsTakenUp c.args.reader.now c.in_ok-ok.field-0 c.restore.result
is_taken_up c = record {
  cv_is = c.in_ok-ok.ensures.value ∙ ap result_ok c.new.ensures.exact;
  number =
      ok_of (λ (cv : CvNumber). cv.number ≡ c.args.reader.now.cv) (λ (fault : PacketFault). Unit {0}) c.new.result
      c.in_ok-ok.field-0 c.in_ok-ok.ensures.value c.new.ensures.ok;
  valid = c.restore.ensures.valid;
  reading = c.restore.ensures.reading;
}

pub returns-clause-found : goal.returns-clause-found
returns-clause-found c = reading_is_taken _ _ _ (is_taken_up c)

pub returns-clause-reading : goal.returns-clause-reading
returns-clause-reading c = taken_is_reading _ _ _ (is_taken_up c)
