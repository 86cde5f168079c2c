use Rattle.std.proofs.Common.{◌≡◌, ◌∙◌, arith}
use Rattle.std.specs.Prelude.{slice_index}
use Rattle.std.proofs.Math.ListN.{length-set}
use Rattle.dcc_regs.proofs.ListWalk.{written_more, left_more}
use Rattle.dcc_regs.proofs.board.set_aspects.Goals as goal

pub loop-n-preserved : goal.loop-n-preserved
loop-n-preserved c =
    let own : slice_index c.loop-n.aspects c.loop-n.n ≡ slice_index c.args.aspects.now c.loop-n.n =
    c.loop-n.invariant.left c.loop-n.n (omega arith) in
    let set = c.at.ensures ∙ c.aspects_set-set.ensures c.loop-n.n in
    record {
      long = rw length-set c.loop-n.invariant.long;
      done = written_more c.loop-n.aspects c.loop-n.n c.unwrap_or.result 0 _ (omega arith) c.loop-n.invariant.done (cc);
      left = left_more c.loop-n.aspects c.loop-n.n c.unwrap_or.result 0 _ c.loop-n.invariant.left;
    }
