-- How the lines of lost packets are written.
use Rattle.std.proofs.Common.{◌≡◌, ◌≢◌, ℕ, ◌+◌, ◌-◌, ◌<◌, ◌≤◌, Bool, List, [], ◌∷◌, ◌++◌, length, replicate, Option}
use Rattle.std.proofs.Common.{Some, None, refl, sym, ap, ◌∙◌, arith, append_assoc, append-nil, length-append, take}
use Rattle.std.proofs.lemmas.List.{length-replicate, length-take-le, replicate-append-replicate}
use Rattle.dcc_lost.specs.declared.causes.LostPacket.{LostPacket}
use Rattle.dcc_lost.specs.declared.finder.LostRun.{LostRun}
use Rattle.dcc_lost.specs.Causes.{packet_lost, packets_lost, packets_lost_after, report_lost}
use Rattle.dcc_lost.proofs.RunLemmas.{packets_lost-push}
use Rattle.dcc_capture.specs.Listing.{AreLines}
use Rattle.dcc_capture.proofs.ListingLaws.{AreLines-one}
use Rattle.dcc_capture.proofs.LinesLemmas.{OnlyAdds}
use Rattle.dcc_listen.specs.LostListing.{IsLostLine}

-- more half-bits only add lost packets

pub none_lost : packets_lost [] ≡ []
unfolding packets_lost packets_lost_after
none_lost = refl

pub lost_only_adds : OnlyAdds packets_lost
lost_only_adds halves [] = ([], ap packets_lost (append-nil halves) ∙ sym (append-nil (packets_lost halves)))
lost_only_adds halves (us ∷ more) =
    let later = lost_only_adds (halves ++ us ∷ []) more in
    let here : List (ℕ × LostPacket) = report_lost (length halves) (packet_lost halves us) in (
      here ++ later.0,
      ap packets_lost (sym (append_assoc halves (us ∷ []) more)) ∙ later.1
          ∙ ap (λ l. l ++ later.0) (packets_lost-push halves us (packet_lost halves us) refl)
          ∙ append_assoc (packets_lost halves) here later.0,
    )

-- the line of a packet that is lost at a half-bit
pub reported : (words : Bool) (place half : ℕ) (packet : LostPacket) (line : List ℕ) → half ≡ place + 1
    → IsLostLine words half packet line → AreLines (IsLostLine words) (report_lost place (Some packet)) line
unfolding report_lost
reported words place half packet line same is_line =
    AreLines-one (IsLostLine words) place packet line (rw same at is_line)

-- a packet is lost at one of the half-bits that were taken
pub at_some_half : (n : ℕ) (answer : LostRun) → 0 < n → (answer.lost ≡ None → answer.at ≡ n)
    → (answer.lost ≢ None → (1 ≤ answer.at) × (answer.at ≤ n)) → (1 ≤ answer.at) × (answer.at ≤ n)
at_some_half n answer some nothing something = go answer.lost nothing something
  where
    go : (lost : Option LostPacket) → (lost ≡ None → answer.at ≡ n) → (lost ≢ None → (1 ≤ answer.at) × (answer.at ≤ n))
        → (1 ≤ answer.at) × (answer.at ≤ n)
    go None nothing something = let all = nothing refl in (omega (arith, all, some), omega (arith, all))
    go (Some packet) nothing something = something (λ none. cc)

-- half-bits of a run, before more of its half-bits and the rest of the run
pub run_next : (us taken at : ℕ) → replicate (taken + at) us ≡ (replicate taken us ++ replicate at us) ++ []
run_next us taken at =
    sym (append-nil (replicate taken us ++ replicate at us) ∙ replicate-append-replicate taken at us)

pub run_cut : (us taken n : ℕ) → taken ≤ n → replicate n us ≡ replicate taken us ++ replicate (n - taken) us
run_cut us taken n within =
    let all : taken + (n - taken) ≡ n = omega (arith, within) in
    sym (replicate-append-replicate taken (n - taken) us ∙ ap (λ (k : ℕ). replicate k us) all)

pub run_until : (us taken at n : ℕ) → taken + at ≤ n
    → replicate n us ≡ (replicate taken us ++ replicate at us) ++ replicate (n - (taken + at)) us
run_until us taken at n within =
    run_cut us (taken + at) n within
    ∙ ap (λ l. l ++ replicate (n - (taken + at)) us) (sym (replicate-append-replicate taken at us))

pub run_pieces : (durations : List ℕ) (us taken at : ℕ)
    → (durations ++ replicate taken us) ++ replicate at us ≡ durations ++ replicate (taken + at) us
run_pieces durations us taken at =
    append_assoc durations (replicate taken us) (replicate at us)
    ∙ ap (λ l. durations ++ l) (replicate-append-replicate taken at us)

-- the number of the last half-bit that was taken
pub half_of : {start : ℕ} (durations : List ℕ) (us taken at : ℕ) → start ≡ length durations → 1 ≤ at
    → start + (taken + at) ≡ (length (durations ++ replicate taken us) + at - 1) + 1
half_of durations us taken at is some =
    omega (arith, is, some, length-append durations (replicate taken us), length-replicate taken us)

-- the number of the next half-bit of a list
pub half_in : {start : ℕ} (durations halves : List ℕ) (taken : ℕ) → start ≡ length durations → taken ≤ length halves
    → start + (taken + 1) ≡ length (durations ++ take taken halves) + 1
half_in durations halves taken is within =
    omega (arith, is, length-append durations (take taken halves), length-take-le taken halves within)
