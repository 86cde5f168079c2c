use Rattle.std.proofs.Common.{◌∙◌, ℕ, ap, Option, ◌≡◌, Some}
use Rattle.std.specs.Prelude.{unwrap_or}
use Rattle.std.specs.Str.Parse.{ParsesUnsigned, ExplainsUnsignedError, HasUnsignedDigitsIfOk, digits_value}
use Rattle.std.specs.Str.Parse.{without_leading_plus}
use Rattle.clap.specs.Words.{found_of}
use Rattle.clap.proofs.WalkLemmas.{one_text-rows}
use Rattle.dcc.proofs.AskedLemmas.{reads_number}
use Rattle.dcc.proofs.request.size_of.Goals as goal

pub returns : goal.returns
returns c =
    let rows = one_text-rows (found_of c.args.matches.now) c.args.id.now in
    record {
      absent =
          λ is. c.unwrap_or.ensures
          ∙ ap (λ (read : Option ℕ). unwrap_or read c.args.other) (c.get_one.ensures.none (rows ∙ is));
      given = λ text is number.
          let read : c.get_one.result ≡ Some (digits_value 10 (without_leading_plus text)) =
          reads_number (λ bs r. ParsesUnsigned 8 10 bs r × ExplainsUnsignedError 10 bs r × HasUnsignedDigitsIfOk bs r) 8
          (λ t r g. g.0) text c.get_one.result
          (c.get_one.ensures.value text (rows ∙ is)) number in
          c.unwrap_or.ensures ∙ ap (λ (read : Option ℕ). unwrap_or read c.args.other) read;
    }
