use Rattle.std.proofs.Common.{false, refl, arith, slice_index_or}
use Rattle.dcc_regs.proofs.Packing.{shifted_one_128, packed_more, zero_from, packed_below}
use Rattle.dcc_regs.proofs.loco_state.packed.Goals as goal

pub loop-n-preserved : goal.loop-n-preserved
loop-n-preserved c =
    let fits = shifted_one_128 c.loop-n.n (omega arith) in
    let on = slice_index_or c.args.flags.now c.loop-n.n false in
    record {
      done = packed_more c.loop-n.bits c.loop-n.n _ on _ fits c.loop-n.invariant.done
          (zero_from c.loop-n.bits c.loop-n.n c.loop-n.invariant.small) refl;
      small = packed_below c.loop-n.bits c.loop-n.n _ on fits c.loop-n.invariant.small;
    }
