use Rattle.std.proofs.Common.{◌≡◌, arith, refl}
use Rattle.std.proofs.lemmas.List.{take_more_set}
use Rattle.dcc_io.proofs.ShortLemmas.{some_items}
use Rattle.dcc_io.proofs.input.take_buffered_halves.Goals as goal

pub returns-in-Some-clause-taken : goal.returns-in-Some-clause-taken
returns-in-Some-clause-taken g c =
    let before = c.take_short_halves-count in
    let none : before.result ≡ 0 = let few = c.if-count-gt0.false in omega arith in
    let same = rw none at before.ensures.taken in
    let some = some_items before.new.halves c.is_empty.result c.is_empty.ensures c.if-is_empty.false in
    rw (take_more_set before.new.halves 0 c.in-Some.us some)
    (c.take_any_buffered_half.new.self, rw same at c.in-Some.ensures.some, refl)
