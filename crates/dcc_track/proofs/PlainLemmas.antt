-- A decoder on both tracks that hears no service packet in service mode.
use Rattle.std.proofs.Common.{◌≡◌, ◌≢◌, ◌⊎◌, inl, inr, ℕ, Bool, true, false, List, [], ◌∷◌, refl, sym, ◌∙◌, ap}
use Rattle.std.proofs.Common.{subst, eqb}
use Rattle.std.specs.Prelude.{◌&&◌, if◌then◌else◌}
use Rattle.std.specs.Bool.{Decides}
use Rattle.std.proofs.lemmas.Bool.Decides.{Decides-eqb}
use lib.Pointwise.{pointwise, pointwise_decides}
use Rattle.dcc_regs.specs.Result.{HasHeard}
use Rattle.dcc_regs.proofs.InParts.{heard_more, heard_nothing}
use Rattle.dcc_service.specs.declared.packet.ServicePacket.{ServicePacket}
use Rattle.dcc_service.specs.Machine.{ServiceState, Step, reset_bytes}
use Rattle.dcc_service.specs.Table.{service_spelling}
use Rattle.dcc_track.specs.declared.answer.TrackAnswer.{TrackAnswer}
use Rattle.dcc_regs.specs.declared.register.Who.{Who}
use Rattle.dcc_track.specs.DecoderState.{DecoderState, after_power_up, cvs_after}
use Rattle.dcc_track.specs.Laws.{HearsFrames, IsPlain, MainOnlyIsPlain, NoServicePacketAfterReset}
use Rattle.dcc_track.specs.Laws.{WithoutServicePacketsIsPlain}
use Rattle.dcc_track.specs.Track.{HearsFrame, HearsOnBoth, HearsOnMain, TrackState, has_new_cvs, service_part}

-- a frame is the reset or not
decided : (frame : List ℕ) (t : Bool) → Decides t (frame ≡ reset_bytes) → (frame ≡ reset_bytes) ⊎ (frame ≢ reset_bytes)
decided frame true decides = inl (decides.0 refl)
decided frame false decides = inr (λ e. let contrary : false ≡ true = decides.1 e in absurd (cc))

pub is_reset_or_not : (frame : List ℕ) → (frame ≡ reset_bytes) ⊎ (frame ≢ reset_bytes)
is_reset_or_not frame =
    decided frame (pointwise eqb frame reset_bytes) (pointwise_decides Decides-eqb frame reset_bytes)

-- no frame leaves a plain decoder as it is
pub plain_nothing : (d : DecoderState) → IsPlain [] d d []
plain_nothing d = record {
  silent = refl;
  packets = [];
  spelled = refl;
  heard = heard_nothing d.who d.registers;
  board_cvs = λ own is. refl;
}

-- one frame, and then the others
pub plain_more : (frame : List ℕ) (frames : List (List ℕ)) (before next after : DecoderState) (answer : TrackAnswer)
    (answers : List TrackAnswer) → answer.acknowledged ≡ false → HearsOnMain frame before next
    → IsPlain frames next after answers → IsPlain (frame ∷ frames) before after (answer ∷ answers)
plain_more frame frames before next after answer answers silent one rest =
    let first : HasHeard (one.packet ∷ []) before.who before.registers next.who next.registers =
    record { same_who = ap (λ d. d.who) one.applied; registers = ap (λ d. d.registers) one.applied } in
    record {
      silent = rw (silent, rest.silent) refl;
      packets = one.packet ∷ rest.packets;
      spelled = rw (one.spelled, rest.spelled) refl;
      heard = heard_more first rest.heard;
      board_cvs = λ own is.
          rest.board_cvs own (first.same_who ∙ is)
          ∙ ap (λ (d : DecoderState). d.cvs) one.applied
          ∙ ap (λ (who : Who). cvs_after who before.registers before.cvs one.packet) is;
    }

-- the decoder stays on the main track
pub main_only_is_plain : MainOnlyIsPlain
unfolding HearsFrames
main_only_is_plain before after [] [] flag is = rw is (plain_nothing before.decoder)
main_only_is_plain before after [] (answer ∷ answers) flag hears = absurd hears
main_only_is_plain before after (frame ∷ frames) [] flag hears = absurd hears
main_only_is_plain before after (frame ∷ frames) (answer ∷ answers) flag (next, one, rest) =
    plain_more frame frames before.decoder next.decoder after.decoder answer answers (one.main_only flag).3
    (one.main_only flag).0
    (main_only_is_plain next after frames answers (one.flag ∙ flag) rest)

-- what a frame leaves: the decoder does not acknowledge the frame, and has heard the frame on the
-- main track. No service packet has changed a CV, and service mode lasts only after a reset.
record LeavesPlain (before : TrackState) (frame : List ℕ) (next : TrackState) (answer : Bool) : Type 0 where
  silent : answer ≡ false
  heard : HearsOnMain frame before.decoder next.decoder
  no_new : has_new_cvs next ≡ false
  reset : next.progress.in_service ≡ true → frame ≡ reset_bytes

no_new_by : (a b : Bool) → b ≡ false → (a && b) ≡ false
no_new_by true b e = e
no_new_by false b e = refl

off_by : (a b : Bool) → a ≡ false → (a && b) ≡ false
off_by true b e = absurd (cc)
off_by false b e = refl

-- in service mode, a frame that is neither the reset nor a service packet ends service mode
ended : (on : Bool) (before : ServiceState) (frame : List ℕ) (served : ServiceState) (answer : Bool)
    → before.in_service ≡ on → (before.in_service ≡ true → (packet : ServicePacket) → frame ≢ service_spelling packet)
    → Step before frame served answer → frame ≢ reset_bytes → served.in_service ≡ false
ended false before frame served answer was none step unlike = ap (λ s. s.in_service) (step.ignored unlike was).0 ∙ was
ended true before frame served answer was none step unlike =
    ap (λ s. s.in_service) (step.other unlike (none was) was).0

quiet : (on : Bool) (before : ServiceState) (frame : List ℕ) (served : ServiceState) (answer : Bool)
    → before.in_service ≡ on → (before.in_service ≡ true → (packet : ServicePacket) → frame ≢ service_spelling packet)
    → Step before frame served answer → frame ≢ reset_bytes → answer ≡ false
quiet false before frame served answer was none step unlike = (step.ignored unlike was).1
quiet true before frame served answer was none step unlike = (step.other unlike (none was) was).1

both_plain : (before : TrackState) (frame : List ℕ) (next : TrackState) (served : ServiceState) (answer changed : Bool)
    → has_new_cvs before ≡ false
    → (before.progress.in_service ≡ true → (packet : ServicePacket) → frame ≢ service_spelling packet)
    → Step (service_part before) frame served answer → HearsOnBoth before next frame served changed
    → (frame ≡ reset_bytes) ⊎ (frame ≢ reset_bytes) → LeavesPlain before frame next answer
both_plain before frame next served answer changed settled none step both (inl is) = record {
  silent = (step.reset is).1;
  heard = (both.reset is).0;
  no_new = no_new_by next.progress.in_service next.changed ((both.reset is).1 ∙ settled);
  reset = λ on. is;
}
both_plain before frame next served answer changed settled none step both (inr unlike) =
    let off : served.in_service ≡ false =
    ended before.progress.in_service (service_part before) frame served answer refl none step unlike in
    let now : next.progress.in_service ≡ false = both.in_service ∙ off in
    let main = both.main unlike off in
    record {
      silent = quiet before.progress.in_service (service_part before) frame served answer refl none step unlike;
      heard = subst (λ (t : Bool). HearsOnMain frame (if t then after_power_up before.decoder else before.decoder)
          next.decoder) settled main.0;
      no_new = off_by next.progress.in_service next.changed now;
      reset = λ on. let contrary : true ≡ false = sym on ∙ now in absurd (cc);
    }

frame_plain : (before : TrackState) (frame : List ℕ) (next : TrackState) (answer : TrackAnswer)
    → before.main_only ≡ false
    → has_new_cvs before ≡ false
    → (before.progress.in_service ≡ true → (packet : ServicePacket) → frame ≢ service_spelling packet)
    → HearsFrame before frame next answer → LeavesPlain before frame next answer.acknowledged
frame_plain before frame next answer flag settled none hears =
    let both = hears.both flag in
    both_plain before frame next both.0 answer.acknowledged _ settled none both.1 both.2 (is_reset_or_not frame)

all_plain : (before after : TrackState) (frames : List (List ℕ)) (answers : List TrackAnswer) → before.main_only ≡ false
    → has_new_cvs before ≡ false
    → (before.progress.in_service ≡ true → (packet : ServicePacket) (later : List (List ℕ))
    → frames ≢ service_spelling packet ∷ later)
    → NoServicePacketAfterReset frames → HearsFrames before frames after answers
    → IsPlain frames before.decoder after.decoder answers
unfolding HearsFrames
all_plain before after [] [] flag settled none apart is = rw is (plain_nothing before.decoder)
all_plain before after [] (answer ∷ answers) flag settled none apart hears = absurd hears
all_plain before after (frame ∷ frames) [] flag settled none apart hears = absurd hears
all_plain before after (frame ∷ frames) (answer ∷ answers) flag settled none apart (next, one, rest) =
    let left : LeavesPlain before frame next answer.acknowledged =
    frame_plain before frame next answer flag settled
    (λ on packet e. none on packet frames (ap (λ (f : List ℕ). f ∷ frames) e)) one in
    plain_more frame frames before.decoder next.decoder after.decoder answer answers left.silent left.heard
    (all_plain next after frames answers (one.flag ∙ flag) left.no_new
    (λ on packet later e. apart [] later packet (rw (left.reset on, e) refl))
    (λ earlier later packet e. apart (frame ∷ earlier) later packet (ap (λ (fs : List (List ℕ)). frame ∷ fs) e)) rest)

by_flag : (flag : Bool) (before after : TrackState) (frames : List (List ℕ)) (answers : List TrackAnswer)
    → before.main_only ≡ flag → before.progress.in_service ≡ false → NoServicePacketAfterReset frames
    → HearsFrames before frames after answers → IsPlain frames before.decoder after.decoder answers
by_flag true before after frames answers flag off apart hears =
    main_only_is_plain before after frames answers flag hears
by_flag false before after frames answers flag off apart hears =
    all_plain before after frames answers flag (off_by before.progress.in_service before.changed off)
    (λ on. let contrary : true ≡ false = sym on ∙ off in absurd (cc)) apart hears

pub without_service_packets_is_plain : WithoutServicePacketsIsPlain
without_service_packets_is_plain before after frames answers =
    by_flag before.main_only before after frames answers refl
