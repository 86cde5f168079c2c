use Rattle.std.proofs.Common.{ℕ, List, take}
use Rattle.dcc_order.specs.Hearing.{whole_track}
use Rattle.dcc_order.proofs.HearingLemmas.{no_halves_heard}
use Rattle.std.proofs.lemmas.List.{take_all}
use Rattle.dcc_order.proofs.TrackLemmas.{piece_more, AllZip-viewed, AllZip-start}
use Rattle.dcc_order.proofs.alike_tracks.hear_track.Goals as goal

pub loop-piece-init : goal.loop-piece-init
loop-piece-init g c = record {
  stands = c.new-framer.ensures;
  since = AllZip-start _ _ c.args.decoders.now
      (λ decoder. no_halves_heard (g.D.Decoder.who decoder) (g.D.Decoder.registers decoder));
}

pub loop-piece-preserved : goal.loop-piece-preserved
loop-piece-preserved g c =
    let before = c.loop-piece.invariant in
    let so_far : List ℕ = whole_track (take c.loop-piece.piece-index c.args.pieces.now) in
    let more = piece_more c.args.pieces.now c.loop-piece.piece-index _ c.loop-piece-test.true in
    record {
      stands = rw more (c.hear_piece.ensures.stands so_far before.stands);
      since = rw more (c.hear_piece.ensures.since so_far before.stands _ before.since);
    }

pub returns : goal.returns
returns g c =
    rw (take_all c.loop-piece.piece-index c.args.pieces.now c.loop-piece-test.false) at
    (AllZip-viewed _ _ c.args.decoders.now c.loop-piece.decoders c.loop-piece.invariant.since)
