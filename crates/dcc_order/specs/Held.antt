-- The two blocks that a comparer stores: the first block, of the left list, and the second block,
-- of the right list.
use Rattle.std.specs.Prelude.{List, []}
use Rattle.dcc_packet.specs.declared.packet.Packet.{Packet}

pub record Held : Type 0 where
  pub first : List Packet
  pub second : List Packet

abbrev pub nothing_held : Held
nothing_held = record { first = []; second = [] }
