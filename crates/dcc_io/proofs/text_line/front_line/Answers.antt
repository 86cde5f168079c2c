use Rattle.std.proofs.Common.{sym, ◌∙◌}
use Rattle.dcc_io.proofs.FrontLemmas.{begins_with_ended}
use Rattle.dcc_io.proofs.text_line.front_line.Goals as goal

pub returns : goal.returns
returns c = record {
  begins = (begins_with_ended c.in_ok-len.ensures).0;
  says = sym c.is_skipped.ensures ∙ c.if-is_skipped.false;
}
