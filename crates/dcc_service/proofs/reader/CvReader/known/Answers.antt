use Rattle.std.proofs.Common.{sym}
use Rattle.dcc_service.proofs.ReaderLemmas.{counted}
use Rattle.dcc_service.proofs.reader.CvReader.known.Goals as goal

pub returns-clause-known : goal.returns-clause-known
returns-clause-known c = sym (counted _ _ _ _ c.self.view_is)
