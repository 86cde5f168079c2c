-- The decoder text of a fleet is parsed as the decoders of this fleet.
use Rattle.std.specs.Prelude.{◌≡◌, ℕ, ◌+◌, ◌≤◌, ◌==◌, if◌then◌else◌, ◌++◌, List, [], ◌∷◌, Ok, length}
use Rattle.std.specs.List.{AllByRecursion}
use Rattle.dcc_regs.specs.declared.register.Register.{Register}
use Rattle.dcc_regs.specs.declared.register.Who.{Who}
use Rattle.dcc_regs.specs.declared.register.Who.TheVariants as who
use Rattle.dcc_regs.specs.LocoState.{loco_state_content}
use Rattle.dcc_regs.specs.BoardState.{board_state_content}
use Rattle.dcc_regs.specs.Loco.{loco_registers}
use Rattle.dcc_regs.specs.Board.{board_registers}
use Rattle.dcc_regs.specs.Possible.{IsPossible}
use Rattle.dcc_regs.specs.Result.{RegisterMap}
use Rattle.dcc_saved.specs.declared.saved.Saved.{Saved}
use Rattle.dcc_saved.specs.declared.saved.Saved.TheVariants as saved
use Rattle.dcc_saved.specs.DecoderText.{decoder_text}
use Rattle.dcc_saved.specs.FleetText.{fleet_text}

-- the maps `one` and `other` have the same value for each register
abbrev pub SameRegisters : RegisterMap → RegisterMap → Type 0
SameRegisters one other = (r : Register) → one r ≡ other r

-- a saved state is the state of a decoder. The saved state has the identity of the decoder. A
-- decoder that `restore` creates from the saved state has the registers of the decoder.
abbrev pub Saves : Saved → Who × RegisterMap → Type 0
Saves (saved.Loco state) (who.Loco address, m) =
    (state.address ≡ address) × SameRegisters (loco_registers (loco_state_content state)) m
Saves (saved.Board state) (who.Board board, m) =
    (state.board ≡ board) × SameRegisters (board_registers (board_state_content state)) m
Saves (saved.Loco state) (who.Board board, m) = ⊥
Saves (saved.Board state) (who.Loco address, m) = ⊥

-- each saved state of a list is the state of the decoder at the same place of the fleet
abbrev pub SavesEach : List Saved → List (Who × RegisterMap) → Type 0
SavesEach [] [] = Unit {0}
SavesEach (one ∷ more) (decoder ∷ fleet) = Saves one decoder × SavesEach more fleet
SavesEach [] (decoder ∷ fleet) = ⊥
SavesEach (one ∷ more) [] = ⊥

abbrev pub IsPossibleDecoder : Who × RegisterMap → Type 0
IsPossibleDecoder decoder = IsPossible decoder.0 decoder.1

-- the number of line feeds in a text
abbrev pub line_feeds : List ℕ → ℕ
line_feeds [] = 0
line_feeds (byte ∷ bytes) = if byte == 10 then 1 + line_feeds bytes else line_feeds bytes

-- let the text of `fleet` begin on line `line`, and let the bytes `rest` follow it. The reader
-- `decoder_text` parses this text as the states of the decoders of `fleet`, and leaves `rest`.
pub record ReadsBack (fleet : List (Who × RegisterMap)) (line : ℕ) (rest : List ℕ) : Type 0 where
  pub states : List Saved
  pub behind : ℕ
  pub reads : decoder_text (record { line = line; bytes = fleet_text fleet ++ rest }) ≡ Ok
      (states, record { line = behind; bytes = rest })
  pub saves : SavesEach states fleet
  pub lines : behind ≡ line + line_feeds (fleet_text fleet)

-- let a fleet have at most 64 decoders, which are all possible. The text of the fleet is parsed as
-- these decoders. The text can begin on any line `line`, and any bytes `rest` can follow.
abbrev pub FleetsAreReadBack : Type 0
FleetsAreReadBack = (fleet : List (Who × RegisterMap)) (line : ℕ) (rest : List ℕ)
    → length fleet ≤ 64 → AllByRecursion IsPossibleDecoder fleet → ReadsBack fleet line rest
