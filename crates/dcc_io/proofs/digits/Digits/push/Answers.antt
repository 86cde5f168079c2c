use Rattle.std.proofs.Common.{refl, arith}
use Rattle.dcc_io.proofs.SpellsLemmas.{AreDigits-digit}
use Rattle.dcc_io.proofs.digits.Digits.push.Goals as goal

pub returns-in-48-to-57 : goal.returns-in-48-to-57
returns-in-48-to-57 c bytes digits =
    AreDigits-digit c.args.self.now _ bytes c.args.byte (omega arith) (omega arith) (omega arith) refl (omega arith)
    digits
