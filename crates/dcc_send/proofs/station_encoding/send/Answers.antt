use Rattle.std.proofs.Common.{refl, ◌∙◌}
use Rattle.std.proofs.lemmas.Result.{err_from_is_err_and}
use Rattle.dcc_send.proofs.StationLemmas.{HoldsAnswers-none, HoldsAnswers-next, stops_sending}
use Rattle.dcc_send.proofs.station_encoding.send.Goals as goal

pub loop-init : goal.loop-init
loop-init g c =
    (HoldsAnswers-none, refl, refl)

pub loop-preserved : goal.loop-preserved
loop-preserved g c =
    let told = rw c.loop.invariant.2 at c.in_ok-send_next.ensures.answers in (
      HoldsAnswers-next c.args.written.now.how c.args.station.now c.loop.station c.send_next.new.station c.loop.counter
          _ _ _
          c.args.held.now c.loop.held c.send_next.new.held c.loop.invariant.0 told.0,
      told.1 ∙ c.loop.invariant.1,
      c.in_ok-send_next.ensures.how ∙ c.loop.invariant.2,
    )

pub returns-in_err-send_next-clause-answers : goal.returns-in_err-send_next-clause-answers
returns-in_err-send_next-clause-answers g c =
    let p = err_from_is_err_and c.from_residual.result c.from_residual.ensures.1 in
    let failed = rw c.loop.invariant.2 at c.in_err-send_next.ensures.answers in
    rw p.1
    (stops_sending c.args.written.now.how c.args.station.now c.loop.station c.loop.counter c.args.count _ _ _
    c.args.held.now
    c.loop.held c.loop-test.true c.loop.invariant.0 c.loop.invariant.1 failed.0 failed.1)
