-- A decoder on both tracks in service mode.
use Rattle.std.proofs.Common.{◌≡◌, ◌≢◌, inl, inr, ℕ, Bool, true, false, List, [], ◌∷◌, refl, sym, ◌∙◌, ap, subst}
use Rattle.std.specs.Prelude.{◌&&◌, if◌then◌else◌}
use Rattle.dcc_packet.specs.declared.address.Address.TheVariants.{Broadcast}
use Rattle.dcc_packet.specs.declared.instruction.What.TheVariants.{Reset}
use Rattle.dcc_packet.specs.declared.packet.Packet.{Packet}
use Rattle.dcc_packet.specs.declared.packet.Packet.TheVariants.{Loco as ToLoco}
use Rattle.dcc_packet.proofs.OneSpelling.{one_packet}
use Rattle.dcc_regs.specs.declared.register.Who.{Who}
use Rattle.dcc_regs.specs.declared.register.Who.TheVariants.{Loco as LocoWho, Board as BoardWho}
use Rattle.dcc_regs.specs.Heard.{hears}
use Rattle.dcc_regs.specs.Result.{RegisterMap}
use Rattle.dcc_regs.specs.declared.register.Register.TheVariants.{Pending as PendingRegister}
use Rattle.dcc_regs.proofs.WritesInParts.{effective_in_parts}
use Rattle.dcc_service.specs.declared.packet.ServicePacket.{ServicePacket}
use Rattle.dcc_service.specs.declared.progress.ServiceProgress.{ServiceProgress}
use Rattle.dcc_service.specs.Machine.{ServiceState, Step, reset_bytes}
use Rattle.dcc_service.specs.Progress.{state_with_cvs}
use Rattle.dcc_service.specs.Question.{Steps}
use Rattle.dcc_service.specs.Table.{service_spelling}
use Rattle.dcc_service.proofs.ExecuteLemmas.{no_reset}
use Rattle.dcc_track.specs.declared.answer.TrackAnswer.{TrackAnswer}
use Rattle.dcc_track.specs.DecoderState.{DecoderState, cvs_after}
use Rattle.dcc_track.specs.Laws.{AreServiceFrames, HearsFrames, IsServiceFrame, ResetEntersTheMachine}
use Rattle.dcc_track.specs.Laws.{ServiceModeIsTheMachine}
use Rattle.dcc_track.specs.Track.{HearsFrame, HearsOnBoth, HearsOnMain, TrackState, service_part}
use Rattle.dcc_track.proofs.ServiceLemmas.{no_packet}

either_cvs : (h : Bool) (a b : List ℕ) → (if h && false then a else b) ≡ b
either_cvs true a b = refl
either_cvs false a b = refl

-- the reset changes no CV
reset_cvs : (who : Who) (m : RegisterMap) (cvs : List ℕ) → cvs_after who m cvs (ToLoco Broadcast Reset) ≡ cvs
reset_cvs (LocoWho active) m cvs =
    ap (λ (effective : Bool). if hears (LocoWho active) (ToLoco Broadcast Reset) && effective then cvs else cvs)
    (effective_in_parts (m PendingRegister) (ToLoco Broadcast Reset))
    ∙ either_cvs (hears (LocoWho active) (ToLoco Broadcast Reset)) cvs cvs
reset_cvs (BoardWho own) m cvs = refl

cvs_after_reset : (frame : List ℕ) (before next : DecoderState) → frame ≡ reset_bytes → HearsOnMain frame before next
    → next.cvs ≡ before.cvs
cvs_after_reset frame before next e heard =
    let is : heard.packet ≡ ToLoco Broadcast Reset =
    one_packet heard.packet (ToLoco Broadcast Reset) (heard.spelled ∙ e) in
    ap (λ d. d.cvs) heard.applied ∙ ap (λ (p : Packet). cvs_after before.who before.registers before.cvs p) is
    ∙ reset_cvs before.who before.registers before.cvs

same_part : (p : ServiceProgress) (cvs : List ℕ) (served : ServiceState) → p.in_service ≡ served.in_service
    → p.pending ≡ served.pending → cvs ≡ served.cvs → state_with_cvs p cvs ≡ served
same_part p cvs served a b c = rw (a, b, c) refl

-- what a service frame leaves: the service part has made a step, and service mode lasts
record LeavesService (before : TrackState) (frame : List ℕ) (next : TrackState) (answer : Bool) : Type 0 where
  step : Step (service_part before) frame (service_part next) answer
  on : next.progress.in_service ≡ true

stepped : (before next : TrackState) (frame : List ℕ) (served : ServiceState) (answer : Bool)
    → Step (service_part before) frame served answer → next.progress.in_service ≡ served.in_service
    → next.progress.pending ≡ served.pending → next.decoder.cvs ≡ served.cvs → served.in_service ≡ true
    → LeavesService before frame next answer
stepped before next frame served answer step a b c on = record {
  step = subst (λ (s : ServiceState). Step (service_part before) frame s answer)
      (sym (same_part next.progress next.decoder.cvs served a b c)) step;
  on = a ∙ on;
}

by_reset : (before next : TrackState) (frame : List ℕ) (served : ServiceState) (answer changed : Bool)
    → Step (service_part before) frame served answer → HearsOnBoth before next frame served changed
    → frame ≡ reset_bytes → LeavesService before frame next answer
by_reset before next frame served answer changed step both e =
    let is = (step.reset e).0 in
    stepped before next frame served answer step both.in_service both.pending
    (cvs_after_reset frame before.decoder next.decoder e (both.reset e).0 ∙ sym (ap (λ s. s.cvs) is))
    (ap (λ s. s.in_service) is)

by_packet : (on : Bool) (before next : TrackState) (frame : List ℕ) (served : ServiceState) (answer changed : Bool)
    (packet : ServicePacket) → served.in_service ≡ on → before.progress.in_service ≡ true
    → Step (service_part before) frame served answer → HearsOnBoth before next frame served changed
    → frame ≡ service_spelling packet → LeavesService before frame next answer
by_packet false before next frame served answer changed packet off was step both e =
    absurd (no_packet (service_part before) frame served answer step was off packet e)
by_packet true before next frame served answer changed packet on was step both e =
    let unlike : frame ≢ reset_bytes = λ r. no_reset packet (sym e ∙ r) in
    stepped before next frame served answer step both.in_service both.pending
    (ap (λ d. d.cvs) (both.service unlike on).0) on

frame_served : (before next : TrackState) (frame : List ℕ) (answer : TrackAnswer) → before.main_only ≡ false
    → before.progress.in_service ≡ true → IsServiceFrame frame → HearsFrame before frame next answer
    → LeavesService before frame next answer.acknowledged
frame_served before next frame answer flag was (inl e) hears =
    let both = hears.both flag in
    by_reset before next frame both.0 answer.acknowledged _ both.1 both.2 e
frame_served before next frame answer flag was (inr (packet, e)) hears =
    let both = hears.both flag in
    by_packet both.0.in_service before next frame both.0 answer.acknowledged _ packet refl was both.1 both.2 e

pub service_mode_is_the_machine : ServiceModeIsTheMachine
unfolding HearsFrames Steps AreServiceFrames
service_mode_is_the_machine before after [] [] flag was each is = ap service_part is
service_mode_is_the_machine before after [] (answer ∷ answers) flag was each hears = absurd hears
service_mode_is_the_machine before after (frame ∷ frames) [] flag was each hears = absurd hears
service_mode_is_the_machine before after (frame ∷ frames) (answer ∷ answers) flag was (first, each) (next, one, rest) =
    let left : LeavesService before frame next answer.acknowledged =
    frame_served before next frame answer flag was first one in (
      service_part next,
      left.step,
      service_mode_is_the_machine next after frames answers (one.flag ∙ flag) left.on each rest,
    )

pub reset_enters_the_machine : ResetEntersTheMachine
unfolding HearsFrames Steps
reset_enters_the_machine before after frames [] flag each hears = absurd hears
reset_enters_the_machine before after frames (answer ∷ answers) flag each (next, one, rest) =
    let both = one.both flag in
    let left : LeavesService before reset_bytes next answer.acknowledged =
    by_reset before next reset_bytes both.0 answer.acknowledged _ both.1 both.2 refl in (
      service_part next,
      left.step,
      service_mode_is_the_machine next after frames answers (one.flag ∙ flag) left.on each rest,
    )
