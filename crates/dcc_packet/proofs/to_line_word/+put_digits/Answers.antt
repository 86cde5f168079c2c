use Rattle.std.proofs.Common.{◌≡◌, ℕ, List, ◌+◌, ◌<◌, ◌++◌, ◌∷◌, [], ◌/◌, ◌%◌, ◌^◌, length, arith, sym, ◌∙◌, ap}
use Rattle.std.proofs.Common.{append_assoc, length-append}
use Rattle.std.specs.Fmt.{decimal}
use Rattle.std.proofs.lemmas.Fmt.{decimal_digit, decimal_step}
use Rattle.dcc_packet.proofs.to_line_word.+put_digits.Goals as goal

pub put_digit-requires-clause-room : goal.put_digit-requires-clause-room
put_digit-requires-clause-room t c =
    let e = decimal_digit c.args.number c.if-number-lt10.true in
    let n : length (decimal c.args.number) ≡ 1 = rw e (omega arith) in
    omega arith

pub put_digits-requires : goal.put_digits-requires
put_digits-requires t c =
    let fits : c.args.number < 2 ^ 64 = omega arith in
    let e = decimal_step c.args.number c.if-number-lt10.false fits in
    let n : length (decimal c.args.number) ≡ length (decimal (c.args.number / 10)) + 1 =
    rw e (omega (arith, length-append (decimal (c.args.number / 10)) ((48 + c.args.number % 10) ∷ []))) in
    (omega arith, omega arith)

pub put_digit-requires-else-number-lt10-clause-room : goal.put_digit-requires-else-number-lt10-clause-room
put_digit-requires-else-number-lt10-clause-room t c =
    let fits : c.args.number < 2 ^ 64 = omega arith in
    let e = decimal_step c.args.number c.if-number-lt10.false fits in
    let n : length (decimal c.args.number) ≡ length (decimal (c.args.number / 10)) + 1 =
    rw e (omega (arith, length-append (decimal (c.args.number / 10)) ((48 + c.args.number % 10) ∷ []))) in
    omega (arith, ap length c.put_digits.ensures, length-append c.args.line.now.bytes (decimal (c.args.number / 10)))

pub returns-then-number-lt10 : goal.returns-then-number-lt10
returns-then-number-lt10 t c = rw (decimal_digit c.args.number c.if-number-lt10.true) c.put_digit.ensures

pub returns-else-number-lt10 : goal.returns-else-number-lt10
returns-else-number-lt10 t c =
    let fits : c.args.number < 2 ^ 64 = omega arith in
    let digit : List ℕ = (48 + c.args.number % 10) ∷ [] in
    c.put_digit-else-number-lt10.ensures ∙ ap (λ (x : List ℕ). x ++ digit) c.put_digits.ensures
    ∙ append_assoc c.args.line.now.bytes (decimal (c.args.number / 10)) digit
    ∙ ap (λ (x : List ℕ). c.args.line.now.bytes ++ x) (sym (decimal_step c.args.number c.if-number-lt10.false fits))
