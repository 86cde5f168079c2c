use Rattle.std.proofs.Common.{◌≡◌, ◌∙◌, ap, ap₂}
use Rattle.std.proofs.lemmas.Result.{IfOk-weaker}
use Rattle.clap.specs.Words.{App, app_of, with_subcommand}
use Rattle.dcc_command.specs.CommandLine.{encode_app, lost_app, readcv_app, run_app, same_app, show_app}
use Rattle.dcc_command.specs.CommandLine.{timing_app, top_app}
use Rattle.dcc_command.proofs.command_line.command.Goals as goal

-- a subcommand more
more : {old new added joined : App} → old ≡ new → added ≡ joined
    → with_subcommand old added.top ≡ with_subcommand new joined.top
more same alike = ap₂ with_subcommand same (ap (λ (a : App). a.top) alike)

-- the program with its first subcommands, up to the one of this name

abbrev up_to_show : App
up_to_show = with_subcommand top_app show_app.top

abbrev up_to_lost : App
up_to_lost = with_subcommand up_to_show lost_app.top

abbrev up_to_encode : App
up_to_encode = with_subcommand up_to_lost encode_app.top

abbrev up_to_run : App
up_to_run = with_subcommand up_to_encode run_app.top

abbrev up_to_same : App
up_to_same = with_subcommand up_to_run same_app.top

abbrev up_to_readcv : App
up_to_readcv = with_subcommand up_to_same readcv_app.top

abbrev up_to_timing : App
up_to_timing = with_subcommand up_to_readcv timing_app.top

pub returns : goal.returns
returns c =
    let first : app_of c.in_ok-subcommand.field-0 ≡ up_to_show =
    c.in_ok-subcommand.ensures.shape c.in_ok-show.ensures.local ∙ more c.top.ensures c.in_ok-show.ensures.app in
    let second : app_of c.in_ok-subcommand-2.field-0 ≡ up_to_lost =
    c.in_ok-subcommand-2.ensures.shape c.in_ok-lost.ensures.local ∙ more first c.in_ok-lost.ensures.app in
    let third : app_of c.in_ok-subcommand-3.field-0 ≡ up_to_encode =
    c.in_ok-subcommand-3.ensures.shape c.in_ok-encode.ensures.local ∙ more second c.in_ok-encode.ensures.app in
    let fourth : app_of c.in_ok-subcommand-4.field-0 ≡ up_to_run =
    c.in_ok-subcommand-4.ensures.shape c.run.ensures.local ∙ more third c.run.ensures.app in
    let fifth : app_of c.in_ok-subcommand-5.field-0 ≡ up_to_same =
    c.in_ok-subcommand-5.ensures.shape c.in_ok-same.ensures.local ∙ more fourth c.in_ok-same.ensures.app in
    let sixth : app_of c.in_ok-subcommand-6.field-0 ≡ up_to_readcv =
    c.in_ok-subcommand-6.ensures.shape c.in_ok-readcv.ensures.local ∙ more fifth c.in_ok-readcv.ensures.app in
    let seventh : app_of c.in_ok-subcommand-7.field-0 ≡ up_to_timing =
    c.in_ok-subcommand-7.ensures.shape c.timing.ensures.local ∙ more sixth c.timing.ensures.app in
    IfOk-weaker c.subcommand-8.result _ _
    (λ r adds. adds.shape c.what.ensures.local ∙ more seventh c.what.ensures.app)
    c.subcommand-8.ensures
