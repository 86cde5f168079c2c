use Rattle.std.proofs.Common.{◌≡◌, ◌-◌, Option, None, Some, List, ℕ, length, take, sym, ◌∙◌}
use Rattle.std.specs.Prelude.{IfSome, IfNone}
use Rattle.dcc_wire.specs.Frames.{IsFrame, with_error_byte}
use Rattle.dcc_packet.specs.declared.packet.Packet.{Packet}
use Rattle.dcc_packet.specs.Rows.{IsPacketRow, HasRow}
use Rattle.dcc_packet.specs.Spelling.{spelling}
use Rattle.dcc_packet.proofs.FrameParts.{frame_parts, in_no_row}
use Rattle.dcc_packet.proofs.packet.Packet.of_row.Goals as goal

spells : (frame : List ℕ) → IsFrame frame → (row : Option Packet)
    → IfSome row (λ packet. spelling packet ≡ with_error_byte (take (length frame - 1) frame))
    → IfSome row (λ packet. spelling packet ≡ frame)
spells frame valid None found = tt
spells frame valid (Some packet) found = found ∙ sym (frame_parts frame valid)

has_no_row : (frame : List ℕ) → IsFrame frame → (row : Option Packet)
    → IfNone row (¬ (IsPacketRow (take (length frame - 1) frame))) → IfNone row (¬ (HasRow frame))
has_no_row frame valid None none = in_no_row frame valid none
has_no_row frame valid (Some packet) none = tt

pub returns : goal.returns
returns c = record {
  found = spells c.args.frame.now c.requires c.row.result c.row.ensures.found;
  none = has_no_row c.args.frame.now c.requires c.row.result c.row.ensures.none;
}
