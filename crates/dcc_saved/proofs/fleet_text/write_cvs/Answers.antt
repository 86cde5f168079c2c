use Rattle.std.proofs.Common.{ℕ, ◌+◌, ◌-◌, List, ◌++◌, Ok, refl, sym, ap, ◌∙◌, arith, append_assoc}
use Rattle.std.proofs.lemmas.List.{append-nil}
use Rattle.dcc_saved.proofs.FleetLemmas.{Wrote-nothing, Writes-stopped, Writes-last, cvs_none, cvs_next, cvs_later}
use Rattle.dcc_saved.proofs.fleet_text.write_cvs.Goals as goal

pub returns-in_err-write_all : goal.returns-in_err-write_all
returns-in_err-write_all g c =
    Writes-stopped _ _ _ c.from_residual.result _ c.from_residual.ensures.0 (Wrote-nothing _ _) refl
    c.in_err-write_all.ensures

pub loop-n-init : goal.loop-n-init
loop-n-init g c = rw (cvs_none, append-nil) c.in_ok-write_all.ensures

pub loop-n-preserved : goal.loop-n-preserved
loop-n-preserved g c =
    let wrote = rw c.cv_byte.ensures at c.in_ok-write_cv.ensures in
    rw (cvs_next, ← append_assoc)
    (Writes-last _ _ (Ok tt) (record { front = _; is = refl; written = c.loop-n.invariant }) refl wrote)

pub returns-in_err-write_cv : goal.returns-in_err-write_cv
returns-in_err-write_cv g c =
    let wrote = rw c.cv_byte.ensures at c.in_err-write_cv.ensures in
    let later = cvs_later _ c.loop-n.n (1024 - (c.loop-n.n + 1)) 1024 (omega (arith, c.loop-n-test.true)) in
    let is = ap (λ (text : List ℕ). c.args.front.now ++ text) later.1 ∙ sym (append_assoc c.args.front.now _ _) in
    Writes-stopped _ _ later.0 c.from_residual-in_err-write_cv.result _ c.from_residual-in_err-write_cv.ensures.0
    (record { front = _; is = is; written = c.loop-n.invariant }) refl wrote
