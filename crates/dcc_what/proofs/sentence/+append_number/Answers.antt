use Rattle.std.proofs.Common.{◌+◌, ◌/◌, ◌%◌, ◌∷◌, [], length, decimal, ap, ◌∙◌, arith, append_assoc, length-append}
use Rattle.std.proofs.Common.{rules}
use Rattle.std.proofs.lemmas.Fmt.{decimal_digit, decimal_step}
use Rattle.dcc_what.proofs.sentence.+append_number.Goals as goal

pub append_number-requires : goal.append_number-requires
append_number-requires t c =
    let step = decimal_step c.args.number c.if-number-lt10.false (omega arith) in
    let len = ap length step ∙ length-append (decimal (c.args.number / 10)) ((48 + c.args.number % 10) ∷ []) in
    (search rules, omega (arith, len, c.requires))

pub push-requires : goal.push-requires
push-requires t c =
    let digit = ap length (decimal_digit c.args.number c.if-number-lt10.true) in
    (omega arith, omega (arith, digit, c.requires))

pub push-requires-2 : goal.push-requires-2
push-requires-2 t c =
    let step = decimal_step c.args.number c.if-number-lt10.false (omega arith) in
    let len = ap length step ∙ length-append (decimal (c.args.number / 10)) ((48 + c.args.number % 10) ∷ []) in
    (omega arith, omega (arith, len, c.requires, c.append_number.ensures.len))

pub returns-clause-items : goal.returns-clause-items
returns-clause-items t c =
    let step = decimal_step c.args.number c.if-number-lt10.false (omega arith) in
    rw (step, c.push-2.ensures.items, c.append_number.ensures.items)
    (append_assoc c.args.text.now.items (decimal (c.args.number / 10)) ((48 + c.args.number % 10) ∷ []))

pub returns-clause-len : goal.returns-clause-len
returns-clause-len t c =
    let step = decimal_step c.args.number c.if-number-lt10.false (omega arith) in
    let len = ap length step ∙ length-append (decimal (c.args.number / 10)) ((48 + c.args.number % 10) ∷ []) in
    omega (arith, len, c.append_number.ensures.len, c.push-2.ensures.len)

pub returns-then-number-lt10-clause-items : goal.returns-then-number-lt10-clause-items
returns-then-number-lt10-clause-items t c = rw (decimal_digit c.args.number c.if-number-lt10.true) c.push.ensures.items

pub returns-then-number-lt10-clause-len : goal.returns-then-number-lt10-clause-len
returns-then-number-lt10-clause-len t c =
    let digit = ap length (decimal_digit c.args.number c.if-number-lt10.true) in omega
    (arith, digit, c.push.ensures.len)
