use Rattle.std.proofs.Common.{◌∙◌, ◌≡◌, ℕ, sym, ap, Option, Some, codes}
use Rattle.std.specs.Prelude.{Result, unwrap_or}
use Rattle.std.specs.Str.Parse.{ParsesUnsigned, ExplainsUnsignedError, HasUnsignedDigitsIfOk, digits_value}
use Rattle.std.specs.Str.Parse.{without_leading_plus}
use Rattle.clap.specs.Words.{ReadsOne, found_of, one_of, one_text, rows_of, Text}
use Rattle.clap.specs.declared.parser.matches.Found.{Found}
use Rattle.clap.proofs.WalkLemmas.{one_text-rows}
use Rattle.dcc_packet.specs.declared.cv.CvNumber.{CvNumber}
use Rattle.dcc_packet.specs.declared.fault.PacketFault.{PacketFault}
use Rattle.dcc_packet.specs.Values.{cv_of}
use Rattle.dcc.specs.Asked.{IsNumber, reading_of}
use Rattle.dcc.proofs.AskedLemmas.{reads_number}
use Rattle.dcc.proofs.request.reading_of.Goals as goal

-- the CV that is made is the one of the text's number
made_of : {E : Type 0} (gives : Text → Result ℕ E → Type 0)
    → ((text : Text) (r : Result ℕ E) → gives text r → ParsesUnsigned 16 10 text r)
    → (found : Found) (read : Option ℕ) (number : ℕ) (made : Result CvNumber PacketFault)
    → ((text : Text) → one_text found (codes "cv") ≡ Some text → ReadsOne gives text read) → number ≡ unwrap_or read 0
    → made ≡ cv_of number
    → (text : Text) → one_of (codes "cv") (rows_of found) ≡ Some text → IsNumber 16 text
    → made ≡ cv_of (digits_value 10 (without_leading_plus text))
made_of gives parses found read number made reads is makes text at said =
    let says = reads_number gives 16 parses text read (reads text (one_text-rows found (codes "cv") ∙ at)) said in
    makes ∙ ap cv_of (is ∙ ap (λ (r : Option ℕ). unwrap_or r 0) says)

pub returns-in-Ok : goal.returns-in-Ok
returns-in-Ok c = λ text at said.
    let made = made_of (λ bs r. ParsesUnsigned 16 10 bs r × ExplainsUnsignedError 10 bs r × HasUnsignedDigitsIfOk bs r)
    (λ t r g. g.0)
    (found_of c.args.matches.now) c.get_one.result _ c.new.result c.get_one.ensures.value c.unwrap_or-number.ensures
    c.new.ensures.exact text at said in (
      c.flag_of-empty.result,
      c.flag_of-empty.ensures,
      ap (λ (cv : Result CvNumber PacketFault). reading_of cv c.flag_of-empty.result) (sym c.in-Ok.is ∙ made),
    )

pub returns-in-Err : goal.returns-in-Err
returns-in-Err c = λ text at said.
    let made = made_of (λ bs r. ParsesUnsigned 16 10 bs r × ExplainsUnsignedError 10 bs r × HasUnsignedDigitsIfOk bs r)
    (λ t r g. g.0)
    (found_of c.args.matches.now) c.get_one.result _ c.new.result c.get_one.ensures.value c.unwrap_or-number.ensures
    c.new.ensures.exact text at said in (
      c.flag_of-empty.result,
      c.flag_of-empty.ensures,
      ap (λ (cv : Result CvNumber PacketFault). reading_of cv c.flag_of-empty.result) (sym c.in-Err.is ∙ made),
    )
