-- A frame takes a decoder from a state to one state, with one answer.
use Rattle.std.proofs.Common.{◌≡◌, ◌≢◌, Bool, true, false, Option, Some, None, List, ℕ, ◌⊎◌, inl, inr, IfSome, refl}
use Rattle.std.proofs.Common.{sym, ap, ◌∙◌, eqb}
use Rattle.std.specs.Bool.{Decides}
use Rattle.std.proofs.lemmas.Bool.Decides.{Decides-eqb}
use lib.Pointwise.{pointwise, pointwise_decides}
use Rattle.dcc_service.specs.declared.packet.ServicePacket.{ServicePacket}
use Rattle.dcc_service.specs.Machine.{ServiceState, Step, reset_bytes}
use Rattle.dcc_service.specs.Table.{service_spelling}
use Rattle.dcc_service.proofs.OneSpelling.{one_packet}

-- two outcomes are one
abbrev Same : ServiceState → ServiceState → Bool → Bool → Type 0
Same after other answer reply = (after ≡ other) × (answer ≡ reply)

both_are : {known after other : ServiceState} {truth answer reply : Bool} → Same after known answer truth
    → Same other known reply truth → Same after other answer reply
both_are a b = (a.0 ∙ sym b.0, a.1 ∙ sym b.1)

compared : (t : Bool) (q p : ServicePacket) → Decides t (service_spelling q ≡ service_spelling p)
    → (Some q ≡ Some p) ⊎ (Some q ≢ Some p)
compared true q p decides = inl (ap Some (one_packet q p (decides.0 refl)))
compared false q p decides = inr (λ same.
    let is : q ≡ p = cc in
    let contrary : false ≡ true = decides.1 (ap service_spelling is) in absurd (cc))

is_pending : (pending : Option ServicePacket) (p : ServicePacket) → (pending ≡ Some p) ⊎ (pending ≢ Some p)
is_pending None p = inr (λ e. absurd (cc))
is_pending (Some q) p =
    compared (pointwise eqb (service_spelling q) (service_spelling p)) q p
    (pointwise_decides Decides-eqb (service_spelling q) (service_spelling p))

by_pending : (packet : ServicePacket) (frame : List ℕ) (before after other : ServiceState) (answer reply : Bool)
    → frame ≡ service_spelling packet → before.in_service ≡ true
    → (before.pending ≡ Some packet) ⊎ (before.pending ≢ Some packet) → Step before frame after answer
    → Step before frame other reply → Same after other answer reply
by_pending packet frame before after other answer reply e on (inl is) step again =
    both_are (step.again packet e on is) (again.again packet e on is)
by_pending packet frame before after other answer reply e on (inr isnt) step again =
    both_are (step.first packet e on isnt) (again.first packet e on isnt)

by_service : (on : Bool) (read : Option ServicePacket) (frame : List ℕ) (before after other : ServiceState)
    (answer reply : Bool) → before.in_service ≡ on → frame ≢ reset_bytes
    → IfSome read (λ packet. service_spelling packet ≡ frame)
    → ((packet : ServicePacket) → service_spelling packet ≡ frame → read ≡ Some packet)
    → Step before frame after answer → Step before frame other reply → Same after other answer reply
by_service false read frame before after other answer reply on no_reset spelled only step again =
    both_are (step.ignored no_reset on) (again.ignored no_reset on)
by_service true None frame before after other answer reply on no_reset spelled only step again =
    let none : (packet : ServicePacket) → frame ≢ service_spelling packet = λ packet e. let bad =
    only packet (sym e) in absurd (cc) in
    both_are (step.other no_reset none on) (again.other no_reset none on)
by_service true (Some packet) frame before after other answer reply on no_reset spelled only step again =
    by_pending packet frame before after other answer reply (sym spelled) on (is_pending before.pending packet) step
    again

pub other_step : (read : Option ServicePacket) (frame : List ℕ) (before after other : ServiceState)
    (answer reply : Bool) → frame ≢ reset_bytes
    → IfSome read (λ packet. service_spelling packet ≡ frame)
    → ((packet : ServicePacket) → service_spelling packet ≡ frame → read ≡ Some packet)
    → Step before frame after answer → Step before frame other reply → Same after other answer reply
other_step read frame before after other answer reply =
    by_service before.in_service read frame before after other answer reply refl
