use Rattle.std.proofs.Common.{◌≡◌, ℕ, ◌<◌, slice_index_or, false, length}
use Rattle.dcc_packet.specs.Bits.{is_one}
use Rattle.dcc_regs.proofs.board_state.outs_of.Given as goal

abbrev pub invariant-loop-n : goal.invariant-loop-n
invariant-loop-n l = record {
  long : length l.outs ≡ 8;
  done : (k : ℕ) → k < l.n → slice_index_or l.outs k false ≡ is_one l.bits k;
}
