use Rattle.std.proofs.Common.{ℕ, List, take}
use Rattle.dcc_order.specs.Hearing.{whole_track}
use Rattle.dcc_order.proofs.HearingLemmas.{no_halves_heard}
use Rattle.std.proofs.lemmas.List.{take_all}
use Rattle.dcc_order.proofs.TrackLemmas.{piece_more}
use Rattle.dcc_order.proofs.single.hear_one.Goals as goal

pub loop-piece-init : goal.loop-piece-init
loop-piece-init g c = record { stands = c.new-framer.ensures; since = no_halves_heard _ _ }

pub loop-piece-preserved : goal.loop-piece-preserved
loop-piece-preserved g c =
    let before = c.loop-piece.invariant in
    let so_far : List ℕ = whole_track (take c.loop-piece.piece-index c.args.pieces.now) in
    let more = piece_more c.args.pieces.now c.loop-piece.piece-index _ c.loop-piece-test.true in
    record {
      stands = rw more (c.hear_its_piece.ensures.stands so_far before.stands);
      since = rw more (c.hear_its_piece.ensures.since so_far before.stands _ _ before.since);
    }

pub returns : goal.returns
returns g c =
    rw (take_all c.loop-piece.piece-index c.args.pieces.now c.loop-piece-test.false) at c.loop-piece.invariant.since
