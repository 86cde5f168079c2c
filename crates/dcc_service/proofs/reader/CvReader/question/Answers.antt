use Rattle.std.proofs.Common.{◌≡◌, length, refl, sym, ap, ◌∙◌, arith}
use Rattle.dcc_service.proofs.ReaderLemmas.{counted, valued}
use Rattle.dcc_service.proofs.reader.CvReader.question.Goals as goal

pub returns-in-Ok-clause-question : goal.returns-in-Ok-clause-question
returns-in-Ok-clause-question c =
    (ap (λ so_far. so_far.cv) c.self.view_is, c.in-Ok.ensures.ok ∙ sym (counted _ _ _ _ c.self.view_is), refl)

pub returns-in-Ok-clause-few : goal.returns-in-Ok-clause-few
returns-in-Ok-clause-few c = omega (arith, counted _ _ _ _ c.self.view_is, c.self.invariant.0)

pub returns-in-Err-clause-question : goal.returns-in-Err-clause-question
returns-in-Err-clause-question c =
    let all : length c.args.self.now.answers ≡ 8 =
    grind (arith, counted _ _ _ _ c.self.view_is, c.self.invariant.0, c.in-Err.ensures.range) in
    (ap (λ so_far. so_far.cv) c.self.view_is, all, valued _ _ _ _ c.self.view_is c.self.invariant.1)

pub returns-in-Err-clause-few : goal.returns-in-Err-clause-few
returns-in-Err-clause-few c = omega (arith, counted _ _ _ _ c.self.view_is, c.self.invariant.0)
