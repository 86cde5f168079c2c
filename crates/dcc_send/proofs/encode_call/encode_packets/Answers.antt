use Rattle.std.proofs.Common.{sym, ◌∙◌}
use Rattle.std.proofs.lemmas.Result.{err_from_is_err_and}
use Rattle.dcc_send.proofs.EncodeLemmas.{Encoding-start, Encoding-wrote, Encoding-packet, stops_at_write}
use Rattle.dcc_send.proofs.EncodeLemmas.{stops_before_read, encodes_up_to}
use Rattle.dcc_send.proofs.encode_call.encode_packets.Goals as goal

pub packets-init : goal.packets-init
packets-init g c =
    (rw c.new-held.ensures (Encoding-start (sym c.fault.ensures.fault ∙ c.in_default.is)), c.new-lines.ensures)

pub packets-preserved : goal.packets-preserved
packets-preserved g c =
    let took = rw (rw c.in_ok-packet.is at c.branch-packet.ensures, c.in-Some-2.is) at c.in_ok-next_line.ensures in
    let kept = c.in_ok-hold-in-Some-2.ensures in
    let held = rw (c.frame.ensures.spelled, c.packets.invariant.1) at kept.line in (
      Encoding-packet (Encoding-wrote c.packets.invariant.0 took.1 took.2) c.in-Some-2.packet took.0 held.0 held.1,
      kept.how ∙ c.packets.invariant.1,
    )

pub returns-in_err-hold-in-Some-2-clause-encodes : goal.returns-in_err-hold-in-Some-2-clause-encodes
returns-in_err-hold-in-Some-2-clause-encodes g c fault =
    let p = err_from_is_err_and c.from_residual-in_err-hold-in-Some-2.result
    c.from_residual-in_err-hold-in-Some-2.ensures.1 in
    let took = rw (rw c.in_ok-packet.is at c.branch-packet.ensures, c.in-Some-2.is) at c.in_ok-next_line.ensures in
    let failed = rw (c.frame.ensures.spelled, c.packets.invariant.1) at c.in_err-hold-in-Some-2.ensures.line in
    rw (p.1, p.2) (stops_at_write (Encoding-wrote c.packets.invariant.0 took.1 took.2) _ c.in-Some-2.packet took.0
    failed.0
    failed.1)

pub returns-in_err-next_line-clause-encodes : goal.returns-in_err-next_line-clause-encodes
returns-in_err-next_line-clause-encodes g c fault =
    let p = err_from_is_err_and c.from_residual.result c.from_residual.ensures.1 in
    let failed = c.in_err-next_line.ensures in
    rw (p.1, p.2, failed.0) (stops_before_read c.packets.invariant.0 failed.1 failed.2)

pub returns-in_err-packet-clause-encodes : goal.returns-in_err-packet-clause-encodes
returns-in_err-packet-clause-encodes g c fault =
    let p = err_from_is_err_and c.from_residual-in_err-packet.result c.from_residual-in_err-packet.ensures.1 in
    let took = rw (rw c.in_err-packet.is at c.branch-packet.ensures) at c.in_ok-next_line.ensures in
    rw (p.1, p.2)
    (encodes_up_to c.args.how c.args.input.now c.packets.input c.next_line.new.input c.packets.held
    c.next_line.new.held _ _ _ _ c.packets.invariant.0 took.0 took.1)
