-- The request that parsed arguments make.
use Rattle.std.specs.Prelude.{◌≡◌, ◌<◌, ◌^◌, ℕ, Bool, true, false, List, Option, None, Some, Result, Ok, Err, codes}
use Rattle.std.specs.Str.Parse.{IsNumeral, without_leading_plus, digits_value}
use Rattle.clap.specs.Words.{Row, Text, first_of, one_of}
use Rattle.dcc_packet.specs.declared.cv.CvNumber.{CvNumber}
use Rattle.dcc_packet.specs.declared.fault.PacketFault.{PacketFault}
use Rattle.dcc_packet.specs.Values.{cv_of}
use Rattle.dcc_regs.specs.declared.register.Who.{Who}
use Rattle.dcc_io.specs.declared.fault.ToolFault.{ToolFault}
use Rattle.dcc_io.specs.declared.fault.ToolFault.TheVariants as fault
use Rattle.dcc_io.specs.declared.fault.Usage.TheVariants as usage
use Rattle.dcc_saved.specs.WhoWord.{who_named}
use Rattle.dcc_send.specs.declared.encoding.Encode.{Encode}
use Rattle.dcc_tool.specs.declared.performing.Request.{Request}
use Rattle.dcc_tool.specs.declared.performing.Request.TheVariants as request

-- `given` is true if and only if the flag `id` was given. The text that clap stores for this flag
-- in `rows` decides this.
pub record IsFlag (id : Text) (rows : List Row) (given : Bool) : Type 0 where
  pub absent : one_of id rows ≡ None → given ≡ false
  pub set : one_of id rows ≡ Some (codes "true") → given ≡ true
  pub unset : one_of id rows ≡ Some (codes "false") → given ≡ false

-- `text` is a number below `2 ^ bits`, with or without a plus sign before the number
abbrev pub IsNumber : ℕ → Text → Type 0
IsNumber bits text = IsNumeral 10 (without_leading_plus text) × (digits_value 10 (without_leading_plus text) < 2 ^ bits)

-- `size` is the number that the parsed arguments `rows` have for the option `id`. If the option was
-- not given, `size` is `other`.
pub record IsSize (id : Text) (rows : List Row) (other : ℕ) (size : ℕ) : Type 0 where
  pub absent : one_of id rows ≡ None → size ≡ other
  pub given : (text : Text) → one_of id rows ≡ Some text → IsNumber 8 text
      → size ≡ digits_value 10 (without_leading_plus text)

-- the arguments in `rows` request the given station. `None` is no station. Any other value has the
-- sizes `queue`, `slots` and `repeats` of the station. A size that was not given is 16 for the
-- queue, 32 for the slots, and 2 for the repeats.
abbrev pub IsStation : List Row → Option (ℕ × ℕ × ℕ) → Type 0
IsStation rows None = IsFlag (codes "station") rows false
IsStation rows (Some (queue, slots, repeats)) =
    IsFlag (codes "station") rows true × IsSize (codes "queue") rows 16 queue × IsSize (codes "slots") rows 32 slots
    × IsSize (codes "repeats") rows 2 repeats

-- `how` is the encoding that the parsed arguments `rows` request
pub record IsEncoding (rows : List Row) (how : Encode) : Type 0 where
  pub hex : IsFlag (codes "hex") rows how.hex
  pub service : IsFlag (codes "service") rows how.service
  pub station : IsStation rows how.station

-- the request to compare two captures for the decoder that a word names. If the word has an error,
-- the result is this error.
abbrev pub compared_for : Result Who ToolFault → Result Request ToolFault
compared_for (Ok who) = Ok (request.Same who)
compared_for (Err refused) = Err refused

abbrev pub comparison : Option Text → Result Request ToolFault
comparison None = Err (fault.Usage usage.Words)
comparison (Some word) = compared_for (who_named word)

-- the request to read a CV. If `empty` is true, the track is empty. If the number of the CV is out
-- of range, the result is the error U1.
abbrev pub reading_of : Result CvNumber PacketFault → Bool → Result Request ToolFault
reading_of (Ok cv) empty = Ok (request.ReadCv cv empty)
reading_of (Err refused) empty = Err (fault.Usage usage.Words)

abbrev pub ReadsCvOf : List Row → Result Request ToolFault → Type 0
ReadsCvOf rows result = (text : Text) → one_of (codes "cv") rows ≡ Some text → IsNumber 16 text →
    (empty : Bool) × IsFlag (codes "empty") rows empty
    × (result ≡ reading_of (cv_of (digits_value 10 (without_leading_plus text))) empty)

-- the request to list a capture, in plain words if `plain` is true, and with packet lines if `words`
-- is true. If both are true, the result is the error U1.
abbrev pub showing : Bool → Bool → Result Request ToolFault
showing false words = Ok (request.Show words)
showing true false = Ok request.ShowPlain
showing true true = Err (fault.Usage usage.Words)

abbrev pub ShowsOf : List Row → Result Request ToolFault → Type 0
ShowsOf rows result =
    (plain : Bool) × (words : Bool) × IsFlag (codes "plain") rows plain × IsFlag (codes "words") rows words
    × (result ≡ showing plain words)

-- `listing` is the request to list lost packets. If the option `--spikes` was given, half-bits shorter
-- than its value are spikes.
pub record ListsLostOf (rows : List Row) (listing : Request) : Type 0 where
  pub words : Bool
  pub flag : IsFlag (codes "words") rows words
  pub absent : one_of (codes "spikes") rows ≡ None → listing ≡ request.Lost words
  pub given : (text : Text) → one_of (codes "spikes") rows ≡ Some text → IsNumber 8 text
      → listing ≡ request.LostWithSpikes words (digits_value 10 (without_leading_plus text))

-- `result` is the request of the subcommand `name` with the parsed arguments `rows`. If these
-- arguments have an error, `result` is this error.
pub record IsRequestNamed (name : Text) (rows : List Row) (result : Result Request ToolFault) : Type 0 where
  pub show : name ≡ codes "show" → ShowsOf rows result
  pub lost : name ≡ codes "lost" → (listing : Request) × ListsLostOf rows listing × (result ≡ Ok listing)
  pub encode : name ≡ codes "encode" → (how : Encode) × IsEncoding rows how × (result ≡ Ok (request.Encode how))
  pub run : name ≡ codes "run" → result ≡ Ok request.Run
  pub same : name ≡ codes "same" → result ≡ comparison (first_of (codes "who") rows)
  pub readcv : name ≡ codes "readcv" → ReadsCvOf rows result
  pub timing : name ≡ codes "timing" → result ≡ Ok request.Timing
  pub what : name ≡ codes "what" → result ≡ Ok request.What

-- `result` is the request of a parsed subcommand, or the error U1 if there is no subcommand
abbrev pub IsRequestOf : Option (Text × List Row) → Result Request ToolFault → Type 0
IsRequestOf None result = result ≡ Err (fault.Usage usage.Words)
IsRequestOf (Some (name, rows)) result = IsRequestNamed name rows result
