-- A theorem about the words of packet lines.
use Rattle.std.specs.Prelude.{◌≡◌, ℕ, List, Ok}
use Rattle.dcc_wire.specs.Frames.{IsFrame}
use Rattle.dcc_packet.specs.Line.{frame_of_words}
use Rattle.dcc_packet.specs.Words.{Word}

-- if `words` of a packet line mean the bytes `bytes`, these bytes are a frame
abbrev pub LinesSayFrames : Type 0
LinesSayFrames = (words : List Word) (bytes : List ℕ) → frame_of_words words ≡ Ok bytes → IsFrame bytes
