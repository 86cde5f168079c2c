-- The forms of all packet lines except `frame HEX`.
use Rattle.std.specs.Prelude.{ℕ, List, [], ◌∷◌, codes, Some, None}
use Rattle.dcc_packet.specs.declared.accessory.Board.{Board}
use Rattle.dcc_packet.specs.declared.accessory.Output.{Output}
use Rattle.dcc_packet.specs.declared.accessory.SignalAddress.{SignalAddress}
use Rattle.dcc_packet.specs.declared.address.Address.{Address}
use Rattle.dcc_packet.specs.declared.fields.Switch.{Switch}
use Rattle.dcc_packet.specs.declared.instruction.What.{What}
use Rattle.dcc_packet.specs.declared.packet.Packet.{Packet}
use Rattle.dcc_packet.specs.declared.packet.Packet.TheVariants.{Idle, Loco, Accessory, Signal}
use Rattle.dcc_packet.specs.Fields.{both}
use Rattle.dcc_packet.specs.Forms.{FormOf, RowOf, row}
use Rattle.dcc_packet.specs.InstructionForms.{instruction_field}
use Rattle.dcc_packet.specs.LineFields.{no_fields, address_field, board_field, output_field, switch_field, signal_field}
use Rattle.dcc_packet.specs.LineFields.{small_field}

-- the form `idle`
abbrev pub idle_form : FormOf Packet (Unit {0})
idle_form =
    record {
      keyword = codes "idle";
      says = λ x. Idle;
      said = elim [ Idle ↦ Some tt | packet ↦ None ];
    }

-- the form `loco TO`, followed by an instruction
abbrev pub loco_form : FormOf Packet (Address × What)
loco_form =
    record {
      keyword = codes "loco";
      says = λ x. Loco x.0 x.1;
      said = elim [ Loco to what ↦ Some (to, what) | packet ↦ None ];
    }

-- the form `accessory BOARD OUTPUT on|off`
abbrev pub accessory_form : FormOf Packet (Board × (Output × Switch))
accessory_form =
    record {
      keyword = codes "accessory";
      says = λ x. Accessory x.0 x.1.0 x.1.1.on;
      said = elim [ Accessory board output on ↦ Some (board, (output, record { on = on })) | packet ↦ None ];
    }

-- the form `signal ADDRESS ASPECT`
abbrev pub signal_form : FormOf Packet (SignalAddress × ℕ)
signal_form =
    record {
      keyword = codes "signal";
      says = λ x. Signal x.0 x.1;
      said = elim [ Signal address aspect ↦ Some (address, aspect) | packet ↦ None ];
    }

abbrev pub packet_forms : List (RowOf Packet)
packet_forms =
    row no_fields idle_form
    ∷ row (both address_field instruction_field) loco_form
    ∷ row (both board_field (both output_field switch_field)) accessory_form
    ∷ row (both signal_field small_field) signal_form
    ∷ []
