use Rattle.std.proofs.Common.{◌≡◌, ℕ, ◌<◌, ◌≤◌, ◌+◌, ◌/◌, ◌^◌, length, decimal, ap, ◌∙◌, arith, append_assoc}
use Rattle.std.proofs.Common.{length-append, refl}
use Rattle.std.proofs.Common.{rules}
use Rattle.std.proofs.lemmas.Fmt.{decimal_digit, decimal_step}
use Rattle.dcc_plain.proofs.text.+append_digits.Goals as goal

-- how many digits a number has
digit_len : (n : ℕ) → n < 10 → length (decimal n) ≡ 1
digit_len n small = ap length (decimal_digit n small)

step_len : (n : ℕ) → 10 ≤ n → n < 2 ^ 64 → length (decimal n) ≡ length (decimal (n / 10)) + 1
step_len n large small = ap length (decimal_step n large small) ∙ length-append (decimal (n / 10)) _

pub append_digits-requires : goal.append_digits-requires
append_digits-requires t c =
    (search rules, omega (arith, step_len c.args.number c.if-number-lt10.false (omega arith), c.requires))

pub push-requires : goal.push-requires
push-requires t c = (omega arith, omega (arith, digit_len c.args.number c.if-number-lt10.true, c.requires))

pub push-requires-2 : goal.push-requires-2
push-requires-2 t c =
    let len = step_len c.args.number c.if-number-lt10.false (omega arith) in
    (omega arith, omega (arith, len, c.requires, c.append_digits.ensures.len))

pub returns-clause-items : goal.returns-clause-items
returns-clause-items t c =
    let step = decimal_step c.args.number c.if-number-lt10.false (omega arith) in
    rw (step, c.push-2.ensures.items, c.append_digits.ensures.items, append_assoc) refl

pub returns-clause-len : goal.returns-clause-len
returns-clause-len t c =
    let len = step_len c.args.number c.if-number-lt10.false (omega arith) in
    omega (arith, len, c.append_digits.ensures.len, c.push-2.ensures.len)

pub returns-then-number-lt10-clause-items : goal.returns-then-number-lt10-clause-items
returns-then-number-lt10-clause-items t c = rw (decimal_digit c.args.number c.if-number-lt10.true) c.push.ensures.items

pub returns-then-number-lt10-clause-len : goal.returns-then-number-lt10-clause-len
returns-then-number-lt10-clause-len t c =
    omega (arith, digit_len c.args.number c.if-number-lt10.true, c.push.ensures.len)
