use Rattle.std.proofs.Common.{◌≡◌, ℕ, ◌-◌, ◌≤◌, true, get_or, sym, refl, ◌∙◌, arith}
use Rattle.std.specs.Char.{is_ascii_digit, digit_value}
use Rattle.std.proofs.lemmas.Bool.Decides.{nat_tests}
use Rattle.std.proofs.lemmas.Int.Digits.{digits_value_more}
use Rattle.std.proofs.lemmas.Grind.{pow_more}
use Rattle.std.proofs.lemmas.List.Folds.{list_all_more}
use Rattle.dcc_packet.proofs.numeral.numeral_value.Goals as goal

-- the byte and the value of a digit
digit_is : (c : ℕ) → is_ascii_digit c ≡ true → (48 ≤ c) × (c ≤ 57) × (digit_value c ≡ c - 48)
digit_is c h = grind (arith, nat_tests)

pub loop-byte-preserved : goal.loop-byte-preserved
loop-byte-preserved c =
    let word = c.args.word.now in
    let i = c.loop-byte.byte-index in
    let digit : is_ascii_digit (get_or word i 0) ≡ true =
    sym c.is_ascii_digit.ensures.value ∙ c.if-not-is_ascii_digit.false in
    let number = digit_is (get_or word i 0) digit in
    let more = digits_value_more 10 word i c.loop-byte-test.true in
    record {
      digits = rw (list_all_more is_ascii_digit word i 0 c.loop-byte-test.true, c.loop-byte.invariant.digits, digit)
          refl;
      value = omega (arith, more, number, c.loop-byte.invariant.value, c.from.ensures);
      small = omega (arith, pow_more 10 i, number, c.loop-byte.invariant.small, c.from.ensures);
    }
