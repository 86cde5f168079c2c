-- The parsing of words of a decoder text.
use Rattle.std.specs.Prelude.{ℕ, List, Result}
use Rattle.dcc_packet.specs.declared.fault.PacketFault.{PacketFault}
use Rattle.dcc_packet.specs.Words.{Word}
use Rattle.dcc_packet.specs.Fields.{word_and_rest, ParsesAs}
use Rattle.dcc_regs.specs.declared.register.Speed.{Speed}
use Rattle.dcc_saved.specs.DecoderLines.{keyword}

abbrev pub TakesKeyword : List ℕ → List Word → Result (Unit {0}) PacketFault → List Word → Type 0
TakesKeyword name line result rest = ParsesAs (word_and_rest (keyword name) line) result rest

abbrev pub TakesSpeed : Result (Speed × List Word) PacketFault → Result Speed PacketFault → List Word → Type 0
TakesSpeed read result rest = ParsesAs read result rest
