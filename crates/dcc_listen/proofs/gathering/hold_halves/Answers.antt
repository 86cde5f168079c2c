use Rattle.std.proofs.Common.{◌++◌, take, append-nil, arith}
use Rattle.std.proofs.lemmas.List.{length-take-le, take_all}
use Rattle.dcc_capture.proofs.HoldLemmas.{next_taken, rest_from, rest_length}
use Rattle.dcc_listen.proofs.GatherLemmas.{HoldsPackets-more}
use Rattle.dcc_listen.proofs.gathering.hold_halves.Goals as goal

pub halves-init : goal.halves-init
halves-init c = record { inside = omega arith; holds = λ durations held. rw (append-nil durations) held }

pub halves-preserved : goal.halves-preserved
halves-preserved c =
    let halves = c.args.halves.now in
    let i = c.halves.taken in
    let k = c.push_many-shown.result.at in
    let before = c.halves.invariant in
    let pushed = c.push_many-shown.ensures in
    let rest = rest_length halves i before.inside in
    let some = pushed.some (omega (arith, rest, c.halves-test.true)) in
    let count = length-take-le k (rest_from halves i) pushed.within in
    let (shown, are, adds, one) = c.in_ok-hold_seen.ensures in
    record {
      inside = omega (arith, rest, pushed.within, before.inside);
      holds = λ durations held.
          let so_far = before.holds durations held in
          rw (next_taken durations halves i k, adds)
          (HoldsPackets-more (take k (rest_from halves i)) shown c.push_many-shown.result.seen _ so_far
          (pushed.stands (durations ++ take i halves) so_far.stands)
          (pushed.sees (durations ++ take i halves) so_far.stands) are (omega (arith, one, some, count)));
    }

pub returns : goal.returns
returns c = λ durations held.
    let all = take_all c.halves.taken c.args.halves.now c.halves-test.false in
    rw all at (c.halves.invariant.holds durations held)
