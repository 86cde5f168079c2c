-- The listing of the outcomes in a capture.
use Rattle.std.specs.Prelude.{◌≡◌, ℕ, ◌+◌, ◌++◌, Bool, List, [], ◌∷◌, decimal, codes}
use Rattle.std.specs.List.{flat_map}
use Rattle.hex.specs.Hex.{encode_lower}
use Rattle.dcc_wire.specs.declared.seen.Seen.{Seen}
use Rattle.dcc_wire.specs.declared.seen.Seen.TheVariants.{Nothing, Packet, Refused}
use Rattle.dcc_wire.specs.declared.seen.Fault.{Fault}
use Rattle.dcc_wire.specs.declared.seen.Fault.TheVariants.{BadHalf, SplitBit, TooShort, TooLong, ErrorByte}
use Rattle.dcc_capture.specs.FrameText.{IsFrameText}

abbrev pub refusal_text : Fault → List ℕ
refusal_text BadHalf = codes "refused H1"
refusal_text SplitBit = codes "refused H2"
refusal_text TooShort = codes "refused H3"
refusal_text TooLong = codes "refused H4"
refusal_text (ErrorByte body) = codes "refused H5 " ++ encode_lower body

-- `text` is the text of an outcome. A refusal has the text `refusal_text`. A packet has its packet
-- line if `words` is true, otherwise the hexadecimal digits of its bytes.
abbrev pub IsOutcomeText : Bool → Seen → List ℕ → Type 0
IsOutcomeText words Nothing text = text ≡ []
IsOutcomeText words (Packet frame) text = IsFrameText words frame text
IsOutcomeText words (Refused fault) text = text ≡ refusal_text fault

-- the line of a listing that consists of the number `half`, a space and `text`. `half` is the
-- number of a half-bit, counted from 1.
abbrev pub numbered_text : ℕ → List ℕ → List ℕ
numbered_text half text = decimal half ++ (codes " " ++ (text ++ codes "\n"))

-- `line` is the line of `outcome` in a listing, with packet lines if `words` is true. `half` is the
-- number of the last half-bit of the outcome, counted from 1.
abbrev pub IsLine : Bool → ℕ → Seen → List ℕ → Type 0
IsLine words half outcome line = (text : List ℕ) × IsOutcomeText words outcome text × (line ≡ numbered_text half text)

-- `text` has one line for each item of a list, in order. An item is a pair of a place, counted from
-- 0, and a value. The predicate `IsLineOf` gets the place plus one, the value and the line.
abbrev pub AreLines : {A : Type 0} → (ℕ → A → List ℕ → Type 0) → List (ℕ × A) → List ℕ → Type 0
AreLines IsLineOf [] text = text ≡ []
AreLines IsLineOf (item ∷ more) text =
    (line : List ℕ) × (rest : List ℕ) × IsLineOf (item.0 + 1) item.1 line × AreLines IsLineOf more rest
    × (text ≡ line ++ rest)

-- `text` is the listing of `outcomes`: one line for each outcome, in order. If `words` is true,
-- packets have their packet lines.
abbrev pub IsListing : Bool → List (ℕ × Seen) → List ℕ → Type 0
IsListing words outcomes text = AreLines (IsLine words) outcomes text

-- the text of an outcome in a listing without packet lines. A packet has the hexadecimal digits of
-- its bytes.
abbrev pub outcome_text : Seen → List ℕ
outcome_text Nothing = []
outcome_text (Packet frame) = encode_lower frame
outcome_text (Refused fault) = refusal_text fault

-- the listing of `outcomes` without packet lines
abbrev pub listing : List (ℕ × Seen) → List ℕ
listing outcomes = flat_map (λ found. numbered_text (found.0 + 1) (outcome_text found.1)) outcomes
