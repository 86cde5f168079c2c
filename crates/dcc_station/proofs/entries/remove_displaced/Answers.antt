use Rattle.std.proofs.Common.{◌≡◌, ◌∙◌, ap, arith, ◌<◌, length, get_or, Some}
use Rattle.std.specs.Prelude.{slice_get}
use Rattle.std.proofs.lemmas.Option.{slice_get-get_or}
use Rattle.dcc_packet.specs.declared.packet.Packet.TheVariants.{Idle}
use Rattle.dcc_station.proofs.EntriesLeft.{passed_all, passed_displaced, passed_kept}
use Rattle.dcc_station.proofs.entries.remove_displaced.Goals as goal
use Rattle.dcc_station.proofs.entries.remove_displaced.Goals.{then-not-is_displaced, else-not-is_displaced}

pub returns-clause-entries : goal.returns-clause-entries
returns-clause-entries g c =
    rw c.truncate.ensures (passed_all c.loop-at.invariant.0 (omega arith))

pub loop-at-preserved : goal.loop-at-preserved
loop-at-preserved g c =
    let now = g.R.PacketRing.buffer c.loop-at.entries in
    let passed = c.loop-at.invariant.0 in
    let long = passed.same_length in
    let inside : c.loop-at.at < length (g.R.PacketRing.buffer c.args.entries.now).items = omega arith in
    let e = get_or now.items c.loop-at.at Idle in
    let found : slice_get now.items c.loop-at.at ≡ Some e =
    slice_get-get_or now.items c.loop-at.at Idle (omega arith) in
    let judged = c.is_displaced.ensures.displaces e found in
    elim c.if-not-is_displaced.branch [
      | then-not-is_displaced w ↦ (
          let is = ap g.R.PacketRing.buffer w.entries-is ∙ w.move_forward.ensures.items e found in
          rw (is, w.kept-is) (
            passed_kept passed inside found
                (λ gone. let yes = judged.1 gone in let no = w.if-not-is_displaced.true in cc),
            c.loop-at.invariant.1,
          ))
      | else-not-is_displaced w ↦ (
          let is = ap g.R.PacketRing.buffer w.entries-is in
          rw (is, w.kept-is)
          (passed_displaced passed inside found (judged.0 w.if-not-is_displaced.false), c.loop-at.invariant.1))
    ]
