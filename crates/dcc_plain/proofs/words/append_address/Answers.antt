use Rattle.std.proofs.Common.{◌++◌, ℕ, List, codes, decimal}
use Rattle.dcc_plain.proofs.TextLemmas.{joined}
use Rattle.dcc_plain.proofs.words.append_address.Goals as goal

pub returns-in-Short-clause-items : goal.returns-in-Short-clause-items
returns-in-Short-clause-items c =
    rw c.in-Short.is (joined _ _ _ (codes "locomotive ") (decimal c.in-Short.address.number)
    c.append-in-Short.ensures.items (rw c.number.ensures.value at c.append_byte.ensures.items))

pub returns-in-Long-clause-items : goal.returns-in-Long-clause-items
returns-in-Long-clause-items c =
    let number : List ℕ = decimal c.in-Long.address.number in
    let names = joined _ _ _ (codes "locomotive ") number c.append-in-Long.ensures.items
    (rw c.number-in-Long.ensures.value at c.append_number.ensures.items) in
    rw c.in-Long.is
    (joined _ _ _ (codes "locomotive " ++ number) (codes " (long)") names c.append-in-Long-2.ensures.items)
