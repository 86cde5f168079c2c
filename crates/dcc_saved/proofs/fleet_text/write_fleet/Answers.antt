use Rattle.std.proofs.Common.{codes, refl}
use Rattle.dcc_saved.proofs.FleetLemmas.{Wrote-nothing, Wrote-more, Writes-stopped, Writes-last, texts_next, texts_none}
use Rattle.dcc_saved.proofs.fleet_text.write_fleet.Goals as goal

pub returns-in_err-write_all : goal.returns-in_err-write_all
returns-in_err-write_all g c =
    let wrote = rw (c.as_slice.ensures.value, c.row.ensures.items) at c.in_err-write_all.ensures in
    Writes-stopped _ (codes "dcc-decoders 2\n") _ c.from_residual.result _ c.from_residual.ensures.0 (Wrote-nothing _ _)
    refl wrote

pub returns-in_err-write_decoder : goal.returns-in_err-write_decoder
returns-in_err-write_decoder g c =
    let wrote = rw c.deref_box-1.ensures.1 at c.in_err-write_decoder.ensures in
    Writes-stopped _ _ _ c.from_residual-in_err-write_decoder.result _ c.from_residual-in_err-write_decoder.ensures.0
    c.loop-decoder.invariant (texts_next _ _ _ c.decoder-item.result c.loop-decoder-test.true c.decoder-item.is) wrote

pub loop-decoder-init : goal.loop-decoder-init
loop-decoder-init g c =
    let wrote = rw (c.as_slice.ensures.value, c.row.ensures.items) at c.in_ok-write_all.ensures in
    Wrote-more (codes "dcc-decoders 2\n") (Wrote-nothing _ _) refl wrote

pub loop-decoder-preserved : goal.loop-decoder-preserved
loop-decoder-preserved g c =
    let wrote = rw c.deref_box-1.ensures.1 at c.in_ok-write_decoder.ensures in
    Wrote-more _ c.loop-decoder.invariant
    (texts_next _ _ _ c.decoder-item.result c.loop-decoder-test.true c.decoder-item.is) wrote

pub returns : goal.returns
returns g c =
    let wrote = rw (c.as_slice-2.ensures.value, c.row-2.ensures.items) at c.write_all-2.ensures in
    Writes-last _ _ c.write_all-2.result c.loop-decoder.invariant
    (texts_none _ _ c.loop-decoder.decoder-index c.loop-decoder-test.false) wrote
