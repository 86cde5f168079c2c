use Rattle.std.proofs.Common.{◌∙◌, ap, sym, arith}
use Rattle.std.specs.Prelude.{Some}
use Rattle.dcc_c.proofs.LocoLemmas.{short_is, long_is, no_kind}
use Rattle.dcc_c.proofs.loco_numbers.address_of.Goals as goal

pub returns-in_ok-short-in-1-clause-found : goal.returns-in_ok-short-in-1-clause-found
returns-in_ok-short-in-1-clause-found c own a k n =
    ap Some (sym c.in_ok-short-in-1.was
    ∙ short_is own c.args.number c.short.result (sym k ∙ c.in-1.is) n c.short.ensures.found)

pub returns-in_err-short-in-1-clause-found : goal.returns-in_err-short-in-1-clause-found
returns-in_err-short-in-1-clause-found c own a k n =
    let none = sym (short_is own c.args.number c.short.result (sym k ∙ c.in-1.is) n c.short.ensures.found)
    ∙ c.in_err-short-in-1.was in
    absurd (no_kind own 1 none (sym k ∙ c.in-1.is) (omega arith))

pub returns-in_ok-long-in-2-clause-found : goal.returns-in_ok-long-in-2-clause-found
returns-in_ok-long-in-2-clause-found c own a k n =
    ap Some (sym c.in_ok-long-in-2.was
    ∙ long_is own c.args.number c.long.result (sym k ∙ c.in-2.is) n c.long.ensures.found)

pub returns-in_err-long-in-2-clause-found : goal.returns-in_err-long-in-2-clause-found
returns-in_err-long-in-2-clause-found c own a k n =
    let none = sym (long_is own c.args.number c.long.result (sym k ∙ c.in-2.is) n c.long.ensures.found)
    ∙ c.in_err-long-in-2.was in
    absurd (no_kind own 2 none (sym k ∙ c.in-2.is) (omega arith))
