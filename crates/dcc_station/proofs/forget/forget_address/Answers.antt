use Rattle.std.proofs.Common.{◌∙◌, ap, ap₂, arith}
use Rattle.std.specs.Prelude.{not}
use Rattle.circular_buffer.specs.Buffer.{Buffer, buffer}
use Rattle.dcc_packet.specs.declared.packet.Packet.{Packet}
use Rattle.dcc_station.specs.Sending.{has_address}
use Rattle.dcc_station.proofs.EntriesForgotten.{passed_all, passed_more}
use Rattle.dcc_station.proofs.forget.forget_address.Goals as goal

pub loop-at-preserved : goal.loop-at-preserved
loop-at-preserved g c =
    let old = g.R.PacketRing.buffer c.args.entries.now in
    let now = g.R.PacketRing.buffer c.loop-at.entries in (
      ap (λ (b : Buffer Packet). b.items) c.pass_first.ensures
          ∙ passed_more (λ e. not (has_address c.args.address.now e)) c.loop-at._at old.items now.items
          (omega (arith, c.loop-at-test.true, c.len-at-end.ensures.len)) c.loop-at.invariant.0,
      ap (λ (b : Buffer Packet). b.capacity) c.pass_first.ensures ∙ c.loop-at.invariant.1,
    )

pub returns : goal.returns
returns g c =
    let old = g.R.PacketRing.buffer c.args.entries.now in
    ap₂ buffer (c.loop-at.invariant.0 ∙ passed_all (λ e. not (has_address c.args.address.now e)) c.loop-at._at old.items
    (omega (arith, c.loop-at-test.false, c.loop-at.auto._at-end, c.len-at-end.ensures.len))) c.loop-at.invariant.1
