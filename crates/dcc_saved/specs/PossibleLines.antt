-- Possible values of the lines of a decoder text.
use Rattle.std.specs.Prelude.{◌≡◌, ◌<◌, ◌≤◌, ℕ, Bool, true, nat_le}
use Rattle.dcc_regs.specs.LocoState.{is_state}
use Rattle.dcc_regs.specs.Possible.{is_decoder}
use Rattle.dcc_saved.specs.declared.saved.Saved.{Saved}
use Rattle.dcc_saved.specs.declared.saved.Saved.TheVariants as saved
use Rattle.dcc_saved.specs.declared.decoder_line.Head.{Head}
use Rattle.dcc_saved.specs.declared.decoder_line.Head.TheVariants as heads
use Rattle.dcc_saved.specs.declared.decoder_line.LocoLine.{LocoLine}
use Rattle.dcc_saved.specs.declared.decoder_line.LocoLine.TheVariants as behind

-- true if a decoder can have this saved state. Then `restore` accepts the state.
abbrev pub is_possible : Saved → Bool
is_possible (saved.Loco state) = is_state state
is_possible (saved.Board state) = nat_le state.board.number 510

-- the first line of a decoder with a possible identity, or the line `end`
abbrev pub IsPossibleHead : Head → Type 0
IsPossibleHead (heads.Decoder who) = is_decoder who ≡ true
IsPossibleHead heads.End = Unit {0}

-- a line of a CV, with a CV number of at least `least` and a value below 256, or a possible line
-- after the CVs
abbrev pub IsSoundLine : ℕ → LocoLine → Type 0
IsSoundLine least (behind.Cv cv value) = (least ≤ cv.number) × (value < 256)
IsSoundLine least (behind.Head head) = IsPossibleHead head
