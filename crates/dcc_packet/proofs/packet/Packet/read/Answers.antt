use Rattle.std.proofs.Common.{◌≡◌, take, length, ◌-◌, ◌∙◌, sym, refl}
use Rattle.dcc_packet.specs.Rows.{IsPacketRow}
use Rattle.dcc_packet.specs.Spelling.{spelling}
use Rattle.dcc_packet.proofs.FrameParts.{frame_parts, in_no_row}
use Rattle.dcc_packet.proofs.OneSpelling.{one_packet}
use Rattle.dcc_packet.proofs.packet.Packet.read.Goals as goal

pub returns-in-Some-clause-spelled : goal.returns-in-Some-clause-spelled
returns-in-Some-clause-spelled c =
    let parts = frame_parts c.args.frame.now c.bytes-bytes.ensures.valid in
    c.in-Some.ensures.found ∙ rw (c.split_at.ensures.front, c.bytes-bytes.ensures.value) (sym parts)

pub returns-in-Some-clause-only : goal.returns-in-Some-clause-only
returns-in-Some-clause-only c =
    let parts = frame_parts c.args.frame.now c.bytes-bytes.ensures.valid in
    let spelled : spelling c.in-Some.packet ≡ c.args.frame.now =
    c.in-Some.ensures.found ∙ rw (c.split_at.ensures.front, c.bytes-bytes.ensures.value) (sym parts) in
    λ packet e. one_packet packet c.in-Some.packet (e ∙ sym spelled)

pub invariant_of-result : goal.invariant_of-result
invariant_of-result c =
    let valid = c.bytes-bytes.ensures.valid in
    let front : c.split_at.result.0.now ≡ take (length c.args.frame.now - 1) c.args.frame.now =
    rw (c.split_at.ensures.front, c.bytes-bytes.ensures.value) refl in
    let none : ¬ (IsPacketRow (take (length c.args.frame.now - 1) c.args.frame.now)) =
    rw front at c.in-None.ensures.none in
    record { valid = valid; no_row = in_no_row c.args.frame.now valid none }

pub returns-in-None-clause-only : goal.returns-in-None-clause-only
returns-in-None-clause-only c = λ packet e. one_packet packet _ e
