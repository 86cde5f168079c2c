-- What a finder answers.
use Rattle.std.proofs.Common.{◌≡◌, ◌≢◌, ℕ, ◌+◌, ◌*◌, ◌≤◌, List, [], ◌∷◌, ◌++◌, length, None, refl, ap, sym, ◌∙◌, arith}
use Rattle.std.proofs.Common.{append-nil, if◌then◌else◌, length-append}
use Rattle.std.proofs.lemmas.Bool.Decides.{nat_tests}
use Rattle.dcc_wire.specs.declared.seen.Seen.{Seen}
use Rattle.dcc_wire.specs.declared.seen.Seen.TheVariants.{Nothing}
use Rattle.dcc_wire.specs.Framing.{Rest, rest, seen, StandsFor, report_at}
use Rattle.dcc_timing.specs.Numbers.{keep_last}
use Rattle.dcc_timing.proofs.RecentLemmas.{keep_last_keep}
use Rattle.dcc_wire.specs.Framing.{is_hunting}
use Rattle.dcc_lost.specs.Lost.{is_unheard, frame_lost, frame_at_end, longest_frame_at_end}

-- the last half-bits tell the frame at the end

at_end_recent : (n : ℕ) (durations : List ℕ) → n ≤ 6 → frame_at_end n (keep_last 130 durations)
    ≡ frame_at_end n durations
unfolding frame_at_end
at_end_recent n durations few = rw (keep_last_keep (18 * n + 10) 130 durations (omega (arith, few)))

pub longest_recent : (durations : List ℕ)
    → longest_frame_at_end (keep_last 130 durations) ≡ longest_frame_at_end durations
unfolding longest_frame_at_end
longest_recent durations =
    rw (
      at_end_recent 6 durations (omega arith),
      at_end_recent 5 durations (omega arith),
      at_end_recent 4 durations (omega arith),
      at_end_recent 3 durations (omega arith),
    )

-- a half-bit with an outcome loses nothing

report_some : (place : ℕ) (answer : Seen) → answer ≢ Nothing → length (report_at place answer) ≡ 1
unfolding report_at
report_some place answer something = grind arith

pub heard : (durations : List ℕ) (us : ℕ) (answer : Seen)
    → seen (durations ++ us ∷ []) ≡ seen durations ++ report_at (length durations) answer → answer ≢ Nothing
    → None ≡ frame_lost durations us
unfolding frame_lost is_unheard
heard durations us answer sees something =
    let longer : length (seen (durations ++ us ∷ [])) ≡ length (seen durations) + 1 =
    ap length sees ∙ length-append (seen durations) (report_at (length durations) answer)
    ∙ ap (λ n. length (seen durations) + n) (report_some (length durations) answer something) in
    grind (arith, nat_tests, longer)

unheard : (durations : List ℕ) (us : ℕ) (answer : Seen) (framer : Rest)
    → seen (durations ++ us ∷ []) ≡ seen durations ++ report_at (length durations) answer → answer ≡ Nothing
    → StandsFor framer (durations ++ us ∷ []) → is_unheard durations us ≡ is_hunting framer
unfolding is_unheard StandsFor report_at
unheard durations us answer framer sees nothing stands =
    let same : seen (durations ++ us ∷ []) ≡ seen durations = sees ∙ rw nothing (append-nil (seen durations)) in
    rw (same, stands) (grind (arith, nat_tests))

pub found : (durations : List ℕ) (us : ℕ) (answer : Seen) (framer : Rest)
    → seen (durations ++ us ∷ []) ≡ seen durations ++ report_at (length durations) answer → answer ≡ Nothing
    → StandsFor framer (durations ++ us ∷ [])
    → (if is_hunting framer then longest_frame_at_end (durations ++ us ∷ []) else None) ≡ frame_lost durations us
unfolding frame_lost
found durations us answer framer sees nothing stands = rw (unheard durations us answer framer sees nothing stands)

-- the same by the framer of the definition
pub found_at : (durations : List ℕ) (us : ℕ) (answer : Seen)
    → seen (durations ++ us ∷ []) ≡ seen durations ++ report_at (length durations) answer → answer ≡ Nothing
    → (if is_hunting (rest (durations ++ us ∷ [])) then longest_frame_at_end (durations ++ us ∷ []) else None)
    ≡ frame_lost durations us
unfolding StandsFor
found_at durations us answer sees nothing = found durations us answer (rest (durations ++ us ∷ [])) sees nothing refl

pub nothing_seen : (durations : List ℕ) (us : ℕ) (answer : Seen)
    → seen (durations ++ us ∷ []) ≡ seen durations ++ report_at (length durations) answer → answer ≡ Nothing
    → seen (durations ++ us ∷ []) ≡ seen durations
unfolding report_at
nothing_seen durations us answer sees nothing = sees ∙ rw nothing (append-nil (seen durations))

pub shows_nothing : (durations : List ℕ) (us : ℕ) → seen (durations ++ us ∷ []) ≡ seen durations
    → seen (durations ++ us ∷ []) ≡ seen durations ++ report_at (length durations) Nothing
unfolding report_at
shows_nothing durations us same = same ∙ sym (append-nil (seen durations))
