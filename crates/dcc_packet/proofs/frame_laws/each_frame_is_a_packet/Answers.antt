use Rattle.std.proofs.Common.{◌≡◌, ◌-◌, Option, Some, None, length, take, refl, sym, ◌∙◌}
use Rattle.std.specs.Prelude.{IfSome, IfNone, List, ℕ}
use Rattle.dcc_wire.specs.Frames.{IsFrame, with_error_byte}
use Rattle.dcc_packet.specs.declared.packet.Packet.{Packet}
use Rattle.dcc_packet.specs.declared.packet.Packet.TheVariants.{Other}
use Rattle.dcc_packet.specs.Rows.{IsPacketRow}
use Rattle.dcc_packet.specs.Spelling.{spelling}
use Rattle.dcc_packet.proofs.FrameParts.{frame_parts, in_no_row}
use Rattle.dcc_packet.proofs.frame_laws.each_frame_is_a_packet.Goals as goal

-- by the row that was found, or none
by_row : (frame : List ℕ) → IsFrame frame → (row : Option Packet)
    → IfSome row (λ packet. spelling packet ≡ with_error_byte (take (length frame - 1) frame))
    → IfNone row (¬ (IsPacketRow (take (length frame - 1) frame))) → (packet : Packet) × (spelling packet ≡ frame)
by_row frame valid None found none =
    (Other (record { frame = frame; valid = valid; no_row = in_no_row frame valid none }), refl)
by_row frame valid (Some packet) found none = (packet, found ∙ sym (frame_parts frame valid))

pub returns : goal.returns
returns c = by_row c.args.frame.now c.requires c.row.result c.row.ensures.found c.row.ensures.none
