use Rattle.std.proofs.Common.{◌≡◌, ℕ, true, false, length, take, Option, None, Some, refl, sym, ap}
use Rattle.std.proofs.Common.{◌∙◌, length-append, add-one, arith}
use Rattle.std.proofs.Math.Seq.{take-suc}
use Rattle.std.specs.Option.{is_some}
use Rattle.dcc_lost.specs.declared.causes.LostPacket.{LostPacket}
use Rattle.dcc_lost.specs.Causes.{packets_lost, packets_lost_after, report_lost}
use Rattle.dcc_examples.proofs.lost_packets.count_lost.Goals.{then-is_some, else-is_some}
use Rattle.dcc_examples.proofs.lost_packets.count_lost.Goals as goal

one_lost : (lost : Option LostPacket) (place : ℕ) → is_some lost ≡ true → length (report_lost place lost) ≡ 1
unfolding report_lost
one_lost None place is = absurd (cc)
one_lost (Some packet) place is = refl

none_lost : (lost : Option LostPacket) (place : ℕ) → is_some lost ≡ false → length (report_lost place lost) ≡ 0
unfolding report_lost
none_lost None place is = refl
none_lost (Some packet) place is = absurd (cc)

pub loop-us-init : goal.loop-us-init
unfolding packets_lost packets_lost_after
loop-us-init c = (c.new-finder.ensures, refl, omega arith)

pub loop-us-preserved : goal.loop-us-preserved
loop-us-preserved c =
    let taken = take c.loop-us.us-index c.args.halves.now in
    let grown = ap length (c.push.ensures.grows taken c.loop-us.invariant.0) ∙ length-append (packets_lost taken) _ in
    rw (add-one, take-suc c.args.halves.now c.loop-us.us-index 0 c.loop-us-test.true)
    (elim c.if-is_some.branch [
      | then-is_some w ↦ (
        c.push.ensures.reads taken c.loop-us.invariant.0,
        omega (
          arith,
          w.count-is,
          c.loop-us.invariant.1,
          grown,
          one_lost c.push.result (length taken) (sym c.is_some.ensures ∙ w.if-is_some.true),
        ),
        omega (arith, w.count-is, c.loop-us.invariant.2),
      )
      | else-is_some w ↦ (
        c.push.ensures.reads taken c.loop-us.invariant.0,
        omega (
          arith,
          w.count-is,
          c.loop-us.invariant.1,
          grown,
          none_lost c.push.result (length taken) (sym c.is_some.ensures ∙ w.if-is_some.false),
        ),
        omega (arith, w.count-is, c.loop-us.invariant.2),
      )
    ])
