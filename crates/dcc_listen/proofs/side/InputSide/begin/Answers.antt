use Rattle.std.proofs.Common.{◌<◌, subst, arith}
use Rattle.dcc_listen.proofs.GatherLemmas.{Gathering-start}
use Rattle.dcc_listen.proofs.side.InputSide.begin.Goals as goal

pub returns-clause-took : goal.returns-clause-took
returns-clause-took g c = record {
  none_kept = c.requires;
  few = subst (λ n. n < 4294967296) c.halves_left-most.ensures (omega arith);
  read = rw c.new.ensures (Gathering-start c.args.self.now c.new-2.result c.requires c.new-2.ensures);
}
