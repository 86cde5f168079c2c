-- What clap's getters read, in the words of what is asked for.
use Rattle.std.proofs.Common.{◌≡◌, ◌∙◌, sym, ℕ, ap, List, Option, Some, None}
use Rattle.std.specs.Prelude.{Result, option_map}
use Rattle.std.specs.Borrow.{Bor}
use Rattle.std.specs.Str.Parse.{ParsesUnsigned, digits_value, without_leading_plus}
use Rattle.clap.specs.Words.{ReadsOne, Text, first_of, first_value, rows_of}
use Rattle.clap.specs.declared.parser.matches.Found.{Found}
use Rattle.clap.proofs.WalkLemmas.{first_value-rows}
use Rattle.dcc.specs.Asked.{IsNumber}

-- a text that is a number is read as this number
pub reads_number : {E : Type 0} (gives : Text → Result ℕ E → Type 0) (bits : ℕ)
    → ((text : Text) (r : Result ℕ E) → gives text r → ParsesUnsigned bits 10 text r)
    → (text : Text) (read : Option ℕ) → ReadsOne gives text read → IsNumber bits text
    → read ≡ Some (digits_value 10 (without_leading_plus text))
reads_number gives bits parses text (Some n) reads number = ap Some (parses text _ reads).1
reads_number gives bits parses text None reads number = absurd (parses text _ reads.1 number)

-- the first word of an argument, in the rows that were found
pub first_word : (found : Found) (id : Text) (word : Option (Bor (List ℕ)))
    → option_map (λ s. s.now) word ≡ first_value found id
    → first_of id (rows_of found) ≡ option_map (λ s. s.now) word
first_word found id word is = sym (is ∙ first_value-rows found id)

pub some_is_none : (n : ℕ) → Some n ≡ None → ⊥
some_is_none n e = cc

pub same_number : (a b : ℕ) → Some a ≡ Some b → a ≡ b
same_number a b e = cc
