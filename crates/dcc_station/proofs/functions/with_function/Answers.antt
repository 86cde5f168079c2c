use Rattle.std.proofs.Common.{◌≡◌, ◌∙◌, ◌-◌, ◌^◌, arith}
use Rattle.std.specs.Prelude.{if◌then◌else◌}
use Rattle.dcc_regs.proofs.Packing.{shifted_one_128}
use Rattle.dcc_station.proofs.FunctionLemmas.{turned_over}
use Rattle.dcc_station.proofs.functions.with_function.Goals as goal
use Rattle.dcc_station.proofs.functions.with_function.Goals.{then-on, else-on}

pub returns : goal.returns
returns c n =
    let filled : c.if-on.bits ≡ (if c.args.on then 2 ^ 128 - 1 else 0) =
    elim c.if-on.branch [ then-on w ↦ rw w.if-on.true w.bits-is | else-on w ↦ rw w.if-on.false w.bits-is ] in
    c.over.ensures n
    ∙ turned_over c.args.functions _ c.if-on.bits c.args.function n c.args.on
    (shifted_one_128 c.args.function (omega (arith, c.requires))) (omega arith) filled
