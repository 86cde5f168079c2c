use Rattle.dcc_order.proofs.AlikeCuts.{alike_halves_leave_the_same}
use Rattle.dcc_order.proofs.TrackLemmas.{AllZip-both}
use Rattle.dcc_order.proofs.alike_tracks.hear_two_tracks.Goals as goal

pub returns-clause-alike : goal.returns-clause-alike
returns-clause-alike g c =
    AllZip-both _ _ _ _
    (λ one other one' other' heard heard' equal.
    alike_halves_leave_the_same (g.L.Decoder.who one) (g.L.Decoder.registers one) _ _ equal.2 _ (g.R.Decoder.who other')
    _ _
    heard (rw (equal.0, equal.1) heard'))
    c.args.left.now c.args.right.now c.hear_track.new.decoders c.hear_track-2.new.decoders c.hear_track.ensures
    c.hear_track-2.ensures
