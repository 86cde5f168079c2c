use Rattle.std.proofs.Common.{◌≡◌, ◌≢◌, true, false, sym, ◌∙◌}
use Rattle.dcc_service.specs.Machine.{reset_bytes}
use Rattle.dcc_service.proofs.StepLemmas.{other_step}
use Rattle.dcc_service.proofs.laws.one_step.Goals as goal

pub returns : goal.returns
returns c =
    let no_reset : c.args.frame.now ≢ reset_bytes = λ e. let contrary : true ≡ false = sym (c.is_reset.ensures.1 e)
    ∙ c.if-is_reset.false in absurd (cc) in
    λ before after other answer reply step again.
    other_step c.read.result c.args.frame.now before after other answer reply no_reset c.read.ensures.spelled
    c.read.ensures.only step again
