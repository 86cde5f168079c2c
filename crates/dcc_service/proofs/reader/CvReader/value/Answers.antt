use Rattle.dcc_service.proofs.ReaderLemmas.{valued}
use Rattle.dcc_service.proofs.reader.CvReader.value.Goals as goal

pub returns : goal.returns
returns c = valued _ _ _ _ c.self.view_is c.self.invariant.1
