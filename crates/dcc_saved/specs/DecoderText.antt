-- The decoder text, versions 1 and 2.
use Rattle.std.specs.Prelude.{zero, suc, ℕ, ◌+◌, ◌-◌, List, [], ◌∷◌, ◌++◌, Option, map, replicate, slice_set}
use Rattle.dcc_packet.specs.declared.accessory.Board.{Board}
use Rattle.dcc_packet.specs.declared.address.Address.{Address}
use Rattle.dcc_packet.specs.declared.fields.Bit.{Bit}
use Rattle.dcc_regs.specs.declared.board_state.BoardState.{BoardState}
use Rattle.dcc_regs.specs.declared.register.Who.{Who}
use Rattle.dcc_regs.specs.declared.register.Who.TheVariants as who
use Rattle.dcc_saved.specs.declared.saved.Saved.{Saved}
use Rattle.dcc_saved.specs.declared.saved.Saved.TheVariants as saved
use Rattle.dcc_saved.specs.declared.decoder_line.Head.{Head}
use Rattle.dcc_saved.specs.declared.decoder_line.Head.TheVariants as heads
use Rattle.dcc_saved.specs.declared.decoder_line.Version.{Version}
use Rattle.dcc_saved.specs.declared.decoder_line.Version.TheVariants as versions
use Rattle.dcc_saved.specs.declared.decoder_line.LocoLine.{LocoLine}
use Rattle.dcc_saved.specs.declared.decoder_line.Numbered.TheVariants as kinds
use Rattle.dcc_saved.specs.declared.decoder_line.LocoLine.TheVariants as behind
use Rattle.dcc_saved.specs.DecoderLines.{version_line, head_line, speed_line, numbers_line, pending_line}
use Rattle.dcc_saved.specs.DecoderLines.{loco_line, Four, listed, positions_line, aspects_line}
use Rattle.dcc_saved.specs.TextReader.{Reader, ◌>>=◌, done, stop_at_decoder, line_by}

-- the reader that goes on after a line. If this line is `cv CV VALUE`, the value of the CV is set
-- in `cvs`, and the reader `again` reads the next line. Any other line ends the lines of CVs.
abbrev pub behind_loco_line : (ℕ → List ℕ → Reader (List ℕ × Head)) → List ℕ → LocoLine → Reader (List ℕ × Head)
behind_loco_line again cvs (behind.Cv cv value) = again (cv.number + 1) (slice_set cvs (cv.number - 1) value)
behind_loco_line again cvs (behind.Head head) = done (cvs, head)

-- the reader of the lines of CVs, in ascending order from CV `least` on, and of the line after
-- these lines. The reader sets the values in `cvs`, and reads at most `most` lines.
abbrev pub cvs_from : ℕ → ℕ → List ℕ → Reader (List ℕ × Head)
cvs_from zero least cvs = stop_at_decoder
cvs_from (suc most) least cvs = line_by (loco_line least) >>= behind_loco_line (cvs_from most) cvs

-- the reader of the lines of CV1 to CV1024, and of the line after these lines. A CV without a line
-- has the value 0.
unfoldable pub cvs_lines : Reader (List ℕ × Head)
cvs_lines = cvs_from 1025 1 (replicate 1024 0)

-- the reader of the line with the binary states that are on. A text of version 1 has no such line,
-- and all its binary states are off.
abbrev pub states_by : Version → Reader ℕ
states_by versions.One = done 0
states_by versions.Two = line_by (numbers_line kinds.State)

-- the reader of the lines of a locomotive decoder after its first line. The reader also reads the
-- line after the decoder, which is the first line of the next decoder, or `end`.
unfoldable pub loco_lines : Version → Option Address → Reader (Saved × Head)
loco_lines version address = do
  speed ← line_by speed_line
  functions ← line_by (numbers_line kinds.Function)
  states ← states_by version
  pending ← line_by (pending_line address)
  cvs ← cvs_lines
  done (
    saved.Loco
        (record {
          address = address;
          speed = speed.0.speed;
          forward = speed.1.forward;
          functions = functions;
          states = states;
          pending = pending;
          cvs = cvs.0;
        }),
    cvs.1,
  )

-- the state of accessory decoder `board`, if its lines have the values `outs`, `positions` and
-- `aspects`
abbrev pub board_read : Board → ℕ → Four Bit → Four ℕ → BoardState
board_read board outs positions aspects =
    record {
      board = board;
      outs = outs;
      positions = map (λ side. side.one) (listed positions);
      aspects = listed aspects;
    }

-- the reader of the lines of an accessory decoder after its first line. The reader also reads the
-- line after the decoder, which is the first line of the next decoder, or `end`.
unfoldable pub board_lines : Board → Reader (Saved × Head)
board_lines board = do
  outs ← line_by (numbers_line kinds.Out)
  positions ← line_by positions_line
  aspects ← line_by aspects_line
  head ← line_by head_line
  done (saved.Board (board_read board outs positions aspects), head)

-- the reader of the lines of a decoder after its first line. The reader also reads the line after
-- the decoder, which is the first line of the next decoder, or `end`.
abbrev pub decoder_lines : Version → Who → Reader (Saved × Head)
decoder_lines version (who.Loco address) = loco_lines version address
decoder_lines version (who.Board board) = board_lines board

-- the reader of at most `room` decoders. The first line of the first decoder was already read. The
-- result is the list `before` followed by these decoders.
abbrev pub decoders_from : Version → ℕ → List Saved → Head → Reader (List Saved)
decoders_from version room before heads.End = done before
decoders_from version zero before (heads.Decoder next) = stop_at_decoder
decoders_from version (suc room) before (heads.Decoder next) = do
  decoder ← decoder_lines version next
  decoders_from version room (before ++ decoder.0 ∷ []) decoder.1

-- the reader of the at most 64 decoders of a decoder text
unfoldable pub decoder_text : Reader (List Saved)
decoder_text = do
  version ← line_by version_line
  head ← line_by head_line
  decoders_from version 64 [] head
