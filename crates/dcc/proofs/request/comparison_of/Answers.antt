use Rattle.std.proofs.Common.{◌∙◌, sym, ap, List, ℕ, codes, Option}
use Rattle.std.proofs.lemmas.Result.{err_from_is_err_and}
use Rattle.std.specs.Prelude.{option_map}
use Rattle.std.specs.Borrow.{Bor}
use Rattle.clap.specs.Words.{found_of}
use Rattle.dcc.specs.Asked.{comparison, compared_for}
use Rattle.dcc.proofs.AskedLemmas.{first_word}
use Rattle.dcc.proofs.request.comparison_of.Goals as goal

pub returns-in_ok-read_who-in-Some : goal.returns-in_ok-read_who-in-Some
returns-in_ok-read_who-in-Some c =
    let word = first_word (found_of c.args.matches.now) (codes "who") c.get_str.result c.get_str.ensures
    ∙ ap (λ (w : Option (Bor (List ℕ))). option_map (λ s. s.now) w) c.in-Some.is in
    sym (ap comparison word ∙ ap compared_for (sym c.in_ok-read_who-in-Some.ensures))

pub returns-in_err-read_who-in-Some : goal.returns-in_err-read_who-in-Some
returns-in_err-read_who-in-Some c =
    let p = err_from_is_err_and c.from_residual.result c.from_residual.ensures.1 in
    let word = first_word (found_of c.args.matches.now) (codes "who") c.get_str.result c.get_str.ensures
    ∙ ap (λ (w : Option (Bor (List ℕ))). option_map (λ s. s.now) w) c.in-Some.is in
    rw (p.1, p.2) (sym (ap comparison word ∙ ap compared_for (sym c.in_err-read_who-in-Some.ensures)))

pub returns-in-None : goal.returns-in-None
returns-in-None c =
    sym (ap comparison (first_word (found_of c.args.matches.now) (codes "who") c.get_str.result c.get_str.ensures
    ∙ ap (λ (w : Option (Bor (List ℕ))). option_map (λ s. s.now) w) c.in-None.is))
