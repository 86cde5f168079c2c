-- What a writing comes to whose questions a decoder answers.
use Rattle.std.proofs.Common.{◌≡◌, ◌≢◌, ℕ, ◌-◌, Bool, true, false, List, length, set, cond, refl, sym, ap, ◌∙◌}
use Rattle.std.proofs.Common.{subst}
use Rattle.std.specs.Prelude.{◌==◌, not}
use Rattle.std.proofs.lemmas.Bool.Decides.{Decides-eqb}
use Rattle.std.proofs.lemmas.List.{length-set}
use Rattle.dcc_packet.specs.Cvs.{cv_in, is_read_only, is_writable, written}
use Rattle.dcc_packet.specs.declared.cv.CvNumber.{CvNumber}
use Rattle.dcc_service.specs.declared.packet.ServicePacket.{ServicePacket}
use Rattle.dcc_service.specs.declared.packet.ServicePacket.TheVariants.{Write, Verify}
use Rattle.dcc_service.specs.declared.writer.CvWriter.{CvWriter}
use Rattle.dcc_service.specs.declared.writer.Writing.{Writing}
use Rattle.dcc_service.specs.declared.writer.Writing.TheVariants.{More, Done, Failed}
use Rattle.dcc_service.specs.CvWritings.{writing_question, writing_after}
use Rattle.dcc_service.specs.Machine.{acted_on, is_acknowledged}
use Rattle.dcc_service.specs.QuestionLaws.{OtherCvsStay}
use Rattle.dcc_service.specs.ReadingLaws.{IsPut}
use Rattle.dcc_service.specs.WritingLaws.{IsWriting, DoneIsTrue, WritingsAreDone, KeptCvsAreCompared}
use Rattle.dcc_service.specs.WritingLaws.{WritingLeavesOthers, IsWritingUnderWay, WritingBegins, WritingGoesOn}
use Rattle.dcc_service.specs.WritingLaws.{DoneIsWritten, FailedIsKept}
use Rattle.dcc_service.proofs.LawLemmas.{value-written, value-other, unwritten}

-- a writing with these fields
abbrev writing : CvNumber → ℕ → Bool → CvWriter
writing cv value is_verifying = record { cv = cv; value = value; is_verifying = is_verifying }

-- a verify that ends with `Done` was true
was_true : (x value : ℕ) → cond (x == value) Done Failed ≡ Done → x ≡ value
was_true x value e = go (x == value) refl e where
  go : (b : Bool) → (x == value) ≡ b → cond b Done Failed ≡ Done → x ≡ value
  go true is e = (Decides-eqb x value).0 is
  go false is e = absurd (cc)

is_done : (x value : ℕ) → x ≡ value → cond (x == value) Done Failed ≡ Done
is_done x value e = ap (λ (b : Bool). cond b Done Failed) ((Decides-eqb x value).1 e)

was_false : (x value : ℕ) → cond (x == value) Done Failed ≡ Failed → x ≢ value
was_false x value e same = let done = is_done x value same in absurd (cc)

others_written : (cvs : List ℕ) (cv : CvNumber) (value : ℕ) → OtherCvsStay cv cvs (written cvs cv value)
others_written cvs cv value other h = value-other cvs cv other value h

-- after the second question of a writing
record IsEnd (cv : CvNumber) (value : ℕ) (cvs after : List ℕ) (ending : Writing) : Type 0 where
  count : length cvs ≡ 1024
  cvs_are : after ≡ written cvs cv value
  ends : ending ≡ cond (cv_in after cv.number == value) Done Failed

-- the verify at the end of a writing
compared : (cv : CvNumber) (value : ℕ) (cvs now after : List ℕ) (so_far : CvWriter) (answer : Bool) (ending : Writing)
    → length cvs ≡ 1024 → so_far ≡ writing cv value true → now ≡ written cvs cv value
    → IsPut (writing_question so_far) now after answer
    → ending ≡ writing_after so_far answer → IsEnd cv value cvs after ending
compared cv value cvs now after so_far answer ending count is before put ends =
    let question : writing_question so_far ≡ Verify cv value = ap writing_question is in
    let same : after ≡ now = put.acted ∙ ap (λ (q : ServicePacket). acted_on q now) question in
    let truth : answer ≡ (cv_in after cv.number == value) =
    put.is ∙ ap (λ (q : ServicePacket). is_acknowledged q now) question
    ∙ ap (λ (xs : List ℕ). cv_in xs cv.number == value) (sym same) in
    record {
      count = count;
      cvs_are = same ∙ before;
      ends = ends ∙ ap (λ (w : CvWriter). writing_after w answer) is ∙ ap (λ (b : Bool). cond b Done Failed) truth;
    }

no_more : (w : CvWriter) (answer : Bool) → More w ≡ cond answer Done Failed → ⊥
no_more w true e = absurd (cc)
no_more w false e = absurd (cc)

same_more : (w u : CvWriter) → More w ≡ More u → w ≡ u
same_more w u e = cc

is_end : (cv : CvNumber) (value : ℕ) (cvs after : List ℕ) (ending : Writing) → IsWriting cv value cvs after ending
    → IsEnd cv value cvs after ending
is_end cv value cvs after ending w =
    let question : writing_question w.start ≡ Write cv value = ap writing_question w.begins in
    let between : w.between ≡ written cvs cv value =
    w.is_written.acted ∙ ap (λ (q : ServicePacket). acted_on q cvs) question in
    let next : w.next ≡ writing cv value true =
    same_more w.next (writing cv value true)
    (sym w.goes_on ∙ ap (λ (s : CvWriter). writing_after s w.first) w.begins) in
    compared cv value cvs w.between after w.next w.second ending w.is_written.bytes.count next between w.is_verified
    (sym w.ends)

end_is_true : (cv : CvNumber) (value : ℕ) (cvs after : List ℕ) (ending : Writing) → IsEnd cv value cvs after ending
    → ending ≡ Done → cv_in after cv.number ≡ value
end_is_true cv value cvs after ending e done = was_true (cv_in after cv.number) value (sym e.ends ∙ done)

end_is_done : (cv : CvNumber) (value : ℕ) (cvs after : List ℕ) (ending : Writing) → IsEnd cv value cvs after ending
    → is_read_only cv.number ≡ false → ending ≡ Done
end_is_done cv value cvs after ending e other =
    let has : cv_in after cv.number ≡ value =
    ap (λ (xs : List ℕ). cv_in xs cv.number) e.cvs_are ∙ value-written cvs cv value e.count (ap not other) in
    e.ends ∙ is_done (cv_in after cv.number) value has

end_is_kept : (cv : CvNumber) (value : ℕ) (cvs after : List ℕ) (ending : Writing) → IsEnd cv value cvs after ending
    → is_read_only cv.number ≡ true → after ≡ cvs
end_is_kept cv value cvs after ending e kept = e.cvs_are ∙ unwritten cvs cv value (ap not kept)

pub done_is_true : DoneIsTrue
done_is_true cv value cvs after ending w = end_is_true cv value cvs after ending (is_end cv value cvs after ending w)

pub writings_are_done : WritingsAreDone
writings_are_done cv value cvs after ending other w =
    end_is_done cv value cvs after ending (is_end cv value cvs after ending w) other

pub kept_cvs_are_compared : KeptCvsAreCompared
kept_cvs_are_compared cv value cvs after ending kept w =
    let e = is_end cv value cvs after ending w in
    let same : after ≡ cvs = end_is_kept cv value cvs after ending e kept in
    let there : cv_in after cv.number ≡ cv_in cvs cv.number = ap (λ (xs : List ℕ). cv_in xs cv.number) same in (
      (
        λ done. sym there ∙ end_is_true cv value cvs after ending e done,
        λ had. e.ends ∙ is_done (cv_in after cv.number) value (there ∙ had),
      ),
      same,
    )

pub writing_leaves_others : WritingLeavesOthers
writing_leaves_others cv value cvs after ending w =
    let e = is_end cv value cvs after ending w in
    subst (λ (xs : List ℕ). OtherCvsStay cv cvs xs) (sym e.cvs_are) (others_written cvs cv value)

pub writing_begins : WritingBegins
writing_begins cv value cvs so_far is =
    subst (λ (w : CvWriter). IsWritingUnderWay cv value cvs cvs w) (sym is)
    (record { same_cv = refl; same_value = refl; cvs_are = refl })

-- a writing that is under way has its fields
has_fields : (cv : CvNumber) (value : ℕ) (cvs now : List ℕ) (so_far : CvWriter) (v : Bool)
    → IsWritingUnderWay cv value cvs now so_far → so_far.is_verifying ≡ v → so_far ≡ writing cv value v
has_fields cv value cvs now so_far v s e =
    λ i. record { cv = s.same_cv i; value = s.same_value i; is_verifying = e i }

cvs_now : (cv : CvNumber) (value : ℕ) (cvs now : List ℕ) (so_far : CvWriter) (v : Bool)
    → IsWritingUnderWay cv value cvs now so_far → so_far.is_verifying ≡ v → now ≡ cond v (written cvs cv value) cvs
cvs_now cv value cvs now so_far v s e = s.cvs_are ∙ ap (λ (b : Bool). cond b (written cvs cv value) cvs) e

pub writing_goes_on : WritingGoesOn
writing_goes_on cv value cvs now after so_far next question answer s asks put comes =
    go so_far.is_verifying refl where
      go : (v : Bool) → so_far.is_verifying ≡ v → IsWritingUnderWay cv value cvs after next
      go true e =
          let none : More next ≡ cond answer Done Failed =
          comes ∙ ap (λ (w : CvWriter). writing_after w answer) (has_fields cv value cvs now so_far true s e) in
          absurd (no_more next answer none)
      go false e =
          let is = has_fields cv value cvs now so_far false s e in
          let follows : next ≡ writing cv value true =
          same_more next (writing cv value true) (comes ∙ ap (λ (w : CvWriter). writing_after w answer) is) in
          let asked : question ≡ Write cv value = asks ∙ ap writing_question is in
          let wrote : after ≡ written cvs cv value =
          put.acted ∙ ap (λ (q : ServicePacket). acted_on q now) asked
          ∙ ap (λ (xs : List ℕ). written xs cv value) (cvs_now cv value cvs now so_far false s e) in
          subst (λ (w : CvWriter). IsWritingUnderWay cv value cvs after w) (sym follows)
          (record { same_cv = refl; same_value = refl; cvs_are = wrote })

length-written : (w : Bool) (cvs : List ℕ) (i value : ℕ) → length (cond w (set cvs i value) cvs) ≡ length cvs
length-written true cvs i value = length-set cvs i value
length-written false cvs i value = refl

-- only a writing to CV7 or CV8 fails
fails_for : (cv : CvNumber) (value : ℕ) (cvs after : List ℕ) → IsEnd cv value cvs after Failed
    → is_read_only cv.number ≡ true
fails_for cv value cvs after e = go (is_read_only cv.number) refl where
  go : (b : Bool) → is_read_only cv.number ≡ b → is_read_only cv.number ≡ true
  go true is = is
  go false is = let done = end_is_done cv value cvs after Failed e is in absurd (cc)

-- a writing that is under way and ends has asked both questions
ends_at : (cv : CvNumber) (value : ℕ) (cvs now after : List ℕ) (so_far : CvWriter) (question : ServicePacket)
    (answer : Bool) (ending : Writing) → ((w : CvWriter) → More w ≢ ending)
    → IsWritingUnderWay cv value cvs now so_far → question ≡ writing_question so_far → IsPut question now after answer
    → ending ≡ writing_after so_far answer → IsEnd cv value cvs after ending
ends_at cv value cvs now after so_far question answer ending over s asks put comes =
    go so_far.is_verifying refl where
      go : (v : Bool) → so_far.is_verifying ≡ v → IsEnd cv value cvs after ending
      go false e =
          absurd (over (writing cv value true)
          (sym (comes
          ∙ ap (λ (w : CvWriter). writing_after w answer) (has_fields cv value cvs now so_far false s e))))
      go true e =
          let before = cvs_now cv value cvs now so_far true s e in
          let fields = has_fields cv value cvs now so_far true s e in
          let count : length cvs ≡ 1024 =
          sym (length-written (is_writable cv) cvs (cv.number - 1) value) ∙ sym (ap length before) ∙ put.bytes.count in
          compared cv value cvs now after so_far answer ending count fields before
          (subst (λ (q : ServicePacket). IsPut q now after answer) asks put) comes

pub done_is_written : DoneIsWritten
done_is_written cv value cvs now after so_far question answer s asks put comes =
    let e = ends_at cv value cvs now after so_far question answer Done (λ w f. absurd (cc)) s asks put comes in (
      end_is_true cv value cvs after Done e refl,
      subst (λ (xs : List ℕ). OtherCvsStay cv cvs xs) (sym e.cvs_are) (others_written cvs cv value),
    )

pub failed_is_kept : FailedIsKept
failed_is_kept cv value cvs now after so_far question answer s asks put comes =
    let e = ends_at cv value cvs now after so_far question answer Failed (λ w f. absurd (cc)) s asks put comes in
    let kept = fails_for cv value cvs after e in
    let same : after ≡ cvs = end_is_kept cv value cvs after Failed e kept in (
      kept,
      subst (λ (xs : List ℕ). cv_in xs cv.number ≢ value) same
          (was_false (cv_in after cv.number) value (sym e.ends)),
      same,
    )
