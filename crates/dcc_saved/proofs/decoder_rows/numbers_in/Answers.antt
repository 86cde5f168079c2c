use Rattle.std.proofs.Common.{◌+◌, ◌^◌, ◌<◌, sym, refl, arith}
use Rattle.dcc_saved.proofs.RowsLemmas.{bits_none, bits_next, bits_room}
use Rattle.dcc_saved.proofs.decoder_rows.numbers_in.Goals as goal

pub loop-n-init : goal.loop-n-init
loop-n-init g c = sym (bits_none _)

pub overflow_add-bits : goal.overflow_add-bits
overflow_add-bits g c =
    let few : c.loop-n.n < 128 = omega (arith, c.loop-n-test.true, c.end-n-end.ensures.most) in
    let room : c.loop-n.bits + c.bit_where_on-bits.result < 2 ^ 128 =
    rw (c.loop-n.invariant, c.bit_where_on-bits.ensures, c.get.ensures, c.register.ensures) (bits_room _ _ few) in
    omega (arith, room)

pub loop-n-preserved : goal.loop-n-preserved
loop-n-preserved g c =
    rw (bits_next, c.loop-n.invariant, c.bit_where_on-bits.ensures, c.get.ensures, c.register.ensures) refl
