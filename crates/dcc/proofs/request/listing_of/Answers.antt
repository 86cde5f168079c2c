use Rattle.std.proofs.Common.{◌∙◌, ◌≡◌, ℕ, sym, ap, refl, Option, Some, None, codes}
use Rattle.std.specs.Str.Parse.{ParsesUnsigned, ExplainsUnsignedError, HasUnsignedDigitsIfOk, digits_value}
use Rattle.std.specs.Str.Parse.{without_leading_plus}
use Rattle.clap.specs.Words.{found_of}
use Rattle.clap.proofs.WalkLemmas.{one_text-rows}
use Rattle.dcc_tool.specs.declared.performing.Request.TheVariants as request
use Rattle.dcc.proofs.AskedLemmas.{reads_number, same_number, some_is_none}
use Rattle.dcc.proofs.request.listing_of.Goals as goal

pub returns-in-None : goal.returns-in-None
returns-in-None c =
    let rows = one_text-rows (found_of c.args.matches.now) (codes "spikes") in
    record {
      words = c.flag_of-words.result;
      flag = c.flag_of-words.ensures;
      absent = λ is. refl;
      given = λ text is number.
          let read : c.get_one.result ≡ Some (digits_value 10 (without_leading_plus text)) =
          reads_number (λ bs r. ParsesUnsigned 8 10 bs r × ExplainsUnsignedError 10 bs r × HasUnsignedDigitsIfOk bs r) 8
          (λ t r g. g.0) text c.get_one.result
          (c.get_one.ensures.value text (rows ∙ is)) number in
          absurd (some_is_none _ (sym read ∙ c.in-None.is));
    }

pub returns-in-Some : goal.returns-in-Some
returns-in-Some c =
    let rows = one_text-rows (found_of c.args.matches.now) (codes "spikes") in
    record {
      words = c.flag_of-words.result;
      flag = c.flag_of-words.ensures;
      absent = λ is. absurd (some_is_none _ (sym c.in-Some.is ∙ c.get_one.ensures.none (rows ∙ is)));
      given = λ text is number.
          let read : c.get_one.result ≡ Some (digits_value 10 (without_leading_plus text)) =
          reads_number (λ bs r. ParsesUnsigned 8 10 bs r × ExplainsUnsignedError 10 bs r × HasUnsignedDigitsIfOk bs r) 8
          (λ t r g. g.0) text c.get_one.result
          (c.get_one.ensures.value text (rows ∙ is)) number in
          ap (λ (limit : ℕ). request.LostWithSpikes c.flag_of-words.result limit)
          (same_number _ _ (sym c.in-Some.is ∙ read));
    }
