-- Lines of a text that a program parses and writes.
use Rattle.std.specs.Prelude.{ℕ, List, ◌++◌, codes, Result}
use Rattle.dcc_packet.specs.declared.fault.PacketFault.{PacketFault}
use Rattle.dcc_packet.specs.Words.{Word}
use Rattle.dcc_packet.specs.Written.{words_in_line}

-- a kind of line with values of type `A`
pub record LineOf (A : Type 0) : Type 1 where
  -- the values that the line can have
  pub Fits : A → Type 0
  -- the value that the words of a line mean, or the first error of these words
  pub read : List Word → Result A PacketFault
  -- the words of the line for a value
  pub written : A → List Word

-- the text of the line of kind `line` with the value `x`
abbrev pub line_text : {A : Type 0} → LineOf A → A → List ℕ
line_text line x = words_in_line (line.written x) ++ codes "\n"
