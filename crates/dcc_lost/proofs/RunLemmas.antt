-- The lost packets of longer lists.
use Rattle.std.proofs.Common.{◌≤◌, ◌≡◌, ℕ, ◌+◌, ◌-◌, List, [], ◌∷◌, ◌++◌, length, replicate, Option, None}
use Rattle.std.proofs.Common.{sym, ap, ◌∙◌, arith, append_assoc, append-nil, length-append}
use Rattle.std.proofs.lemmas.List.{length-replicate, replicate_more, replicate-append-replicate}
use Rattle.dcc_lost.specs.declared.causes.LostPacket.{LostPacket}
use Rattle.dcc_lost.specs.Causes.{packet_lost, packets_lost, packets_lost_after, report_lost}

lost_after-push : (before durations : List ℕ) (us : ℕ)
    → packets_lost_after before (durations ++ us ∷ [])
    ≡ packets_lost_after before durations
    ++ report_lost (length (before ++ durations)) (packet_lost (before ++ durations) us)
unfolding packets_lost_after
lost_after-push before [] us =
    append-nil (report_lost (length before) (packet_lost before us))
    ∙ ap (λ l. report_lost (length l) (packet_lost l us)) (sym (append-nil before))
lost_after-push before (first ∷ durations) us =
    let here : List (ℕ × LostPacket) = report_lost (length before) (packet_lost before first) in
    let ih = lost_after-push (before ++ first ∷ []) durations us in
    ap (λ l. here ++ l) (ih ∙ ap (λ l. packets_lost_after (before ++ first ∷ []) durations
    ++ report_lost (length l) (packet_lost l us)) (append_assoc before (first ∷ []) durations))
    ∙ sym (append_assoc here (packets_lost_after (before ++ first ∷ []) durations) _)

pub packets_lost-push : (durations : List ℕ) (us : ℕ) (lost : Option LostPacket) → lost ≡ packet_lost durations us
    → packets_lost (durations ++ us ∷ []) ≡ packets_lost durations ++ report_lost (length durations) lost
unfolding packets_lost
packets_lost-push durations us lost is =
    lost_after-push [] durations us
    ∙ ap (λ l. packets_lost_after [] durations ++ report_lost (length durations) l) (sym is)

pub run_more : (durations : List ℕ) (us n : ℕ) → (durations ++ replicate n us) ++ us ∷ [] ≡ durations
    ++ replicate (n + 1) us
run_more durations us n =
    append_assoc durations (replicate n us) (us ∷ [])
    ∙ ap (λ l. durations ++ l) (replicate_more n us ∙ ap (λ k. replicate k us) (omega arith))

-- one more half-bit of a run without a lost packet
pub run_grows : (durations : List ℕ) (us n : ℕ) (lost : Option LostPacket)
    → packets_lost (durations ++ replicate n us) ≡ packets_lost durations
    → packets_lost ((durations ++ replicate n us) ++ us ∷ [])
    ≡ packets_lost (durations ++ replicate n us) ++ report_lost (length (durations ++ replicate n us)) lost
    → packets_lost (durations ++ replicate (n + 1) us)
    ≡ packets_lost durations ++ report_lost (length durations + (n + 1) - 1) lost
run_grows durations us n lost so grows =
    let place : length (durations ++ replicate n us) ≡ length durations + (n + 1) - 1 =
    omega (arith, length-append durations (replicate n us), length-replicate n us) in
    ap packets_lost (sym (run_more durations us n)) ∙ grows
    ∙ ap (λ l. l ++ report_lost (length (durations ++ replicate n us)) lost) so
    ∙ ap (λ k. packets_lost durations ++ report_lost k lost) place

pub run_quiet : (durations : List ℕ) (us n place : ℕ) (lost : Option LostPacket) → lost ≡ None
    → packets_lost (durations ++ replicate n us) ≡ packets_lost durations ++ report_lost place lost
    → packets_lost (durations ++ replicate n us) ≡ packets_lost durations
unfolding report_lost
run_quiet durations us n place lost none e = e ∙ rw none (append-nil (packets_lost durations))

pub run_ends : (durations : List ℕ) (us n place : ℕ) → packets_lost (durations ++ replicate n us)
    ≡ packets_lost durations
    → packets_lost (durations ++ replicate n us) ≡ packets_lost durations ++ report_lost place None
unfolding report_lost
run_ends durations us n place e = e ∙ sym (append-nil (packets_lost durations))

pub run_none : (durations : List ℕ) (us : ℕ) → durations ++ replicate 0 us ≡ durations
run_none durations us = append-nil durations
