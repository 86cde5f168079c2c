use Rattle.std.proofs.Common.{refl, sym, ◌∙◌}
use Rattle.std.proofs.lemmas.Result.{err_from_is_err_and}
use Rattle.dcc_io.proofs.LineLemmas.{OpensLine-bad, line_stops}
use Rattle.dcc_io.proofs.input.Input.next_line.Goals as goal

pub returns-then-not-has_room_for : goal.returns-then-not-has_room_for
returns-then-not-has_room_for g c =
    let bad = sym c.has_room_for.ensures ∙ c.if-not-has_room_for.true in
    rw c.refuse.ensures.answer (
      refl,
      OpensLine-bad _ c.bytes.invariant.1 (rw c.in-Some.is at c.in_ok-byte.ensures) c.if-byte-eq10.false bad
          c.bytes.invariant.0 c.refuse.ensures.kept,
    )

pub returns-in_err-byte : goal.returns-in_err-byte
returns-in_err-byte g c =
    let p = err_from_is_err_and c.from_residual.result c.from_residual.ensures.1 in
    rw (p.1, p.2) (line_stops _ _ c.bytes.invariant.1 c.in_err-byte.ensures)
