use Rattle.dcc_service.proofs.ReadingsUnderWay.{reading_begins, reading_goes_on, reading_keeps_the_cvs}
use Rattle.dcc_service.proofs.ReadingsUnderWay.{reading_tells_the_value, reading_is_answered}
use Rattle.dcc_service.proofs.laws.readings_under_way.Goals as goal

pub returns : goal.returns
returns c = record {
  begins = reading_begins;
  goes_on = reading_goes_on;
  keeps = reading_keeps_the_cvs;
  tells = reading_tells_the_value;
  is_answered = reading_is_answered;
}
