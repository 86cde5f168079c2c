use Rattle.std.proofs.Common.{◌≡◌, ◌∙◌, ap, ap₂, arith, length}
use Rattle.std.specs.Prelude.{not}
use Rattle.circular_buffer.specs.Buffer.{Buffer, buffer}
use Rattle.dcc_packet.specs.declared.packet.Packet.{Packet}
use Rattle.dcc_regs.specs.Safety.{can_move}
use Rattle.dcc_station.specs.Sending.{not_withdrawn}
use Rattle.dcc_station.proofs.EntriesForgotten.{both_parts, passed_all, passed_more}
use Rattle.dcc_station.proofs.stop.withdraw_steps.Goals as goal

pub loop-at-preserved : goal.loop-at-preserved
loop-at-preserved g c =
    let old = g.Q.PacketRing.buffer c.args.waiting.now in
    let now = g.Q.PacketRing.buffer c.loop-at.waiting in (
      ap (λ (b : Buffer Packet). b.items) c.pass_first.ensures
          ∙ passed_more (λ p. not (can_move p)) c.loop-at._at old.items now.items
          (omega (arith, c.loop-at-test.true, c.len-all.ensures.len)) c.loop-at.invariant.0,
      ap (λ (b : Buffer Packet). b.capacity) c.pass_first.ensures ∙ c.loop-at.invariant.1,
    )

pub overflow_sub-result : goal.overflow_sub-result
overflow_sub-result g c =
    let old = g.Q.PacketRing.buffer c.args.waiting.now in
    let now = g.Q.PacketRing.buffer c.loop-at.waiting in
    let left : now.items ≡ not_withdrawn old.items = c.loop-at.invariant.0
    ∙ passed_all (λ p. not (can_move p)) c.loop-at._at old.items
    (omega (arith, c.loop-at-test.false, c.loop-at.auto._at-end, c.len-all.ensures.len)) in
    omega (arith, both_parts can_move old.items, ap length left, c.len.ensures.len, c.len-all.ensures.len)

pub returns-clause-left : goal.returns-clause-left
returns-clause-left g c =
    let old = g.Q.PacketRing.buffer c.args.waiting.now in
    ap₂ buffer (c.loop-at.invariant.0
    ∙ passed_all (λ p. not (can_move p)) c.loop-at._at old.items
    (omega (arith, c.loop-at-test.false, c.loop-at.auto._at-end, c.len-all.ensures.len))) c.loop-at.invariant.1

pub returns-clause-withdrawn : goal.returns-clause-withdrawn
returns-clause-withdrawn g c =
    let old = g.Q.PacketRing.buffer c.args.waiting.now in
    let now = g.Q.PacketRing.buffer c.loop-at.waiting in
    let left : now.items ≡ not_withdrawn old.items = c.loop-at.invariant.0
    ∙ passed_all (λ p. not (can_move p)) c.loop-at._at old.items
    (omega (arith, c.loop-at-test.false, c.loop-at.auto._at-end, c.len-all.ensures.len)) in
    omega (arith, both_parts can_move old.items, ap length left, c.len.ensures.len, c.len-all.ensures.len)
