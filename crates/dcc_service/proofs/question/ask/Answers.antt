use Rattle.std.proofs.Common.{◌≡◌, ℕ, Bool, List, [], ◌∷◌, ◌++◌, length, take, ◌<◌, refl, ap, sym, ◌∙◌, subst, arith}
use Rattle.std.proofs.lemmas.List.{take_more}
use Rattle.std.specs.Prelude.{◌||◌}
use Rattle.std.specs.List.{list_any}
use Rattle.dcc_service.specs.Question.{Steps, question_bytes, after_question, four_no_then}
use Rattle.dcc_service.specs.Machine.{is_acknowledged}
use Rattle.dcc_service.proofs.QuestionLemmas.{answers_of, any_of_answers, any-more, Steps-more}
use Rattle.dcc_service.proofs.question.ask.Goals as goal
use Rattle.dcc_service.proofs.question.ask.Goals.{After-loop-frame}

pub loop-frame-init : goal.loop-frame-init
unfolding Steps
loop-frame-init c = ([], refl, refl)

pub loop-frame-preserved : goal.loop-frame-preserved
loop-frame-preserved c =
    let within : c.loop-frame.frame-index < length c.question_frames-frames.result =
    omega (arith, c.type_inv.frame-items) in
    let P : List (List ℕ) → Type 0 =
    λ frames. Steps c.args.decoder.now frames c.apply-yes.new.self
    (c.loop-frame.invariant.0 ++ c.apply-yes.result ∷ []) in (
      c.loop-frame.invariant.0 ++ c.apply-yes.result ∷ [],
      subst P (sym (take_more c.question_frames-frames.result c.loop-frame.frame-index c.frame-item.result within))
          (Steps-more c.args.decoder.now _ c.loop-frame.decoder c.loop-frame.invariant.0 _ c.apply-yes.new.self
          c.apply-yes.result c.loop-frame.invariant.1 c.apply-yes.ensures),
      ap (λ (some : Bool). some || c.apply-yes.result) c.loop-frame.invariant.2
          ∙ sym (any-more c.loop-frame.invariant.0 c.apply-yes.result),
    )

whole : (c : After-loop-frame)
    → Steps c.args.decoder.now (question_bytes c.args.question.now) c.loop-frame.decoder c.loop-frame.invariant.0
whole c =
    let last : c.loop-frame.frame-index ≡ 8 = omega arith in
    let P : List (List ℕ) → Type 0 =
    λ frames. Steps c.args.decoder.now frames c.loop-frame.decoder c.loop-frame.invariant.0 in
    subst P (ap (λ (n : ℕ). take n c.question_frames-frames.result) last
    ∙ ap (λ (frames : List (List ℕ)). take 8 frames) c.question_frames-frames.ensures) c.loop-frame.invariant.1

known : (c : After-loop-frame) → (c.loop-frame.decoder ≡ after_question c.args.decoder.now c.args.question.now)
    × (c.loop-frame.invariant.0 ≡ four_no_then (is_acknowledged c.args.question.now c.args.decoder.now.cvs))
known c =
    answers_of c.args.question.now c.args.decoder.now c.loop-frame.decoder c.loop-frame.invariant.0
    c.cvs.ensures.bytes.count (whole c)

pub returns-clause-answer : goal.returns-clause-answer
returns-clause-answer c =
    c.loop-frame.invariant.2 ∙ ap (λ (answers : List Bool). list_any (λ answer. answer) answers) (known c).1
    ∙ any_of_answers (is_acknowledged c.args.question.now c.args.decoder.now.cvs)

pub returns-clause-after : goal.returns-clause-after
returns-clause-after c = (known c).0
