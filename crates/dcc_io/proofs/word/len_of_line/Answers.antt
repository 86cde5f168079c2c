use Rattle.std.proofs.Common.{length, arith}
use Rattle.dcc_io.proofs.LineFeedLemmas.{within_line}
use Rattle.dcc_io.proofs.word.len_of_line.Goals as goal

pub returns-in-Some : goal.returns-in-Some
returns-in-Some c =
    let found = c.in-Some.ensures in
    let within = found.0.high in
    record {
      within = omega (arith, within);
      none = within_line c.args.bytes.now c.in-Some.len (omega (arith, within)) found.0.before;
    }

pub returns-in-None : goal.returns-in-None
returns-in-None c = record {
  within = omega arith;
  none = within_line c.args.bytes.now (length c.args.bytes.now) (omega arith) c.in-None.ensures;
}
