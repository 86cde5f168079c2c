use Rattle.std.proofs.Common.{◌≡◌, ◌∙◌, ap, map, subst}
use Rattle.std.proofs.lemmas.Result.{IfOk-weaker}
use Rattle.clap.specs.Words.{App, FailsBy, app_of, fault_of, is_simple, is_simple_and_free, subcommand_of}
use Rattle.dcc_command.specs.CommandLine.{dcc_app}
use Rattle.dcc_command.proofs.CommandLineLemmas.{is_free, is_plain}
use Rattle.dcc_command.proofs.words.taken.Goals as goal

pub returns-clause-takes : goal.returns-clause-takes
returns-clause-takes g c =
    let is : app_of c.in_ok-command.field-0 ≡ dcc_app = c.in_ok-command.ensures in
    subst (λ (a : App). FailsBy (fault_of a (map g.S.AsStr.text c.args.words.now)) c.try_get_matches_from.result) is
    (c.try_get_matches_from.ensures.kinds (ap is_simple_and_free is ∙ is_free))

pub returns-clause-finds : goal.returns-clause-finds
returns-clause-finds g c =
    let is : app_of c.in_ok-command.field-0 ≡ dcc_app = c.in_ok-command.ensures in
    IfOk-weaker c.try_get_matches_from.result _ _
    (λ m has. (has (ap is_simple is ∙ is_plain)).1
    ∙ ap (λ (a : App). subcommand_of a (map g.S.AsStr.text c.args.words.now)) is)
    c.try_get_matches_from.ensures.matches
