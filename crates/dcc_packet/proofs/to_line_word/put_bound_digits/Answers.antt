use Rattle.std.proofs.Common.{◌≤◌, ap, length, arith, length-append}
use Rattle.std.specs.Fmt.{decimal}
use Rattle.dcc_packet.proofs.Decimal.{short}
use Rattle.dcc_packet.proofs.to_line_word.put_bound_digits.Goals as goal

pub returns-clause-len : goal.returns-clause-len
returns-clause-len c =
    let five : length (decimal c.args.number) ≤ 5 = short c.args.number (omega arith) in
    omega (arith, five, ap length c.put_digits.ensures, length-append c.args.line.now.bytes (decimal c.args.number))
