-- What the service part of a decoder leaves as it is.
use Rattle.std.proofs.Common.{◌≡◌, ◌≢◌, ℕ, Bool, true, false, List, refl, sym, ◌∙◌, ap}
use Rattle.std.specs.Prelude.{Some, if◌then◌else◌}
use Rattle.dcc_service.specs.declared.packet.ServicePacket.{ServicePacket}
use Rattle.dcc_service.specs.declared.progress.ServiceProgress.{ServiceProgress}
use Rattle.dcc_service.specs.Machine.{ServiceState, Step, reset_bytes}
use Rattle.dcc_service.specs.Progress.{state_with_cvs}
use Rattle.dcc_service.specs.Table.{service_spelling}
use Rattle.dcc_track.specs.DecoderState.{DecoderState, HasCvs, after_power_up, with_new_cvs}

-- a frame that ends service mode is no service packet
pub no_packet : (before : ServiceState) (frame : List ℕ) (after : ServiceState) (answer : Bool)
    → Step before frame after answer → before.in_service ≡ true → after.in_service ≡ false → (packet : ServicePacket)
    → frame ≢ service_spelling packet
no_packet before frame after answer step on off packet e =
    let isnt : before.pending ≢ Some packet = λ is.
    let there : after.in_service ≡ true = ap (λ s. s.in_service) (step.again packet e on is).0 in
    let contrary : true ≡ false = sym there ∙ off in absurd (cc) in
    let there : after.in_service ≡ true = ap (λ s. s.in_service) (step.first packet e on isnt).0 in
    let contrary : true ≡ false = sym there ∙ off in absurd (cc)

by_mode : (on : Bool) (before : ServiceState) (frame : List ℕ) (after : ServiceState) (answer : Bool)
    → before.in_service ≡ on → Step before frame after answer → frame ≢ reset_bytes → after.in_service ≡ false
    → after.cvs ≡ before.cvs
by_mode false before frame after answer was step unlike off = ap (λ s. s.cvs) (step.ignored unlike was).0
by_mode true before frame after answer was step unlike off =
    ap (λ s. s.cvs) (step.other unlike (no_packet before frame after answer step was off) was).0

-- a frame after which no service mode lasts changes no CV
pub cvs_kept : (before : ServiceState) (frame : List ℕ) (after : ServiceState) (answer : Bool)
    → Step before frame after answer → frame ≢ reset_bytes → after.in_service ≡ false → after.cvs ≡ before.cvs
cvs_kept before frame after answer = by_mode before.in_service before frame after answer refl

-- a decoder whose CVs do not change is the same
pub same_decoder : (before after : DecoderState) → HasCvs before → after ≡ with_new_cvs before after.cvs
    → after.cvs ≡ before.cvs → after ≡ before
same_decoder before after has is same = is ∙ ap (with_new_cvs before) same ∙ has.held

-- the decoder after the service part has heard the reset
pub after_reset : (before after : DecoderState) (p q : ServiceProgress) (frame : List ℕ) (answer : Bool) → HasCvs before
    → after ≡ with_new_cvs before after.cvs
    → Step (state_with_cvs p before.cvs) frame (state_with_cvs q after.cvs) answer
    → frame ≡ reset_bytes → after ≡ before
after_reset before after p q frame answer has is step e =
    same_decoder before after has is (ap (λ s. s.cvs) (step.reset e).0)

-- the decoder after the service part has heard a frame after which no service mode lasts
pub after_end : (before after : DecoderState) (p q : ServiceProgress) (frame : List ℕ) (answer : Bool) → HasCvs before
    → after ≡ with_new_cvs before after.cvs
    → Step (state_with_cvs p before.cvs) frame (state_with_cvs q after.cvs) answer
    → frame ≢ reset_bytes → q.in_service ≡ false → after ≡ before
after_end before after p q frame answer has is step unlike off =
    same_decoder before after has is
    (cvs_kept (state_with_cvs p before.cvs) frame (state_with_cvs q after.cvs) answer step unlike off)

-- a power-up changes no CV
pub cvs_powered_up : (t : Bool) (d : DecoderState) → (if t then after_power_up d else d).cvs ≡ d.cvs
cvs_powered_up true d = refl
cvs_powered_up false d = refl
