-- What a finder of lost packets has read, and the packet at its end.
use Rattle.std.proofs.Common.{◌≡◌, ℕ, suc, ◌+◌, ◌-◌, ◌*◌, ◌<◌, ◌≤◌, List, [], ◌∷◌, ◌++◌, length, take, drop}
use Rattle.std.proofs.Common.{get_or, map}
use Rattle.std.proofs.Common.{Option, None, refl, sym, ap, ◌∙◌, arith, length-drop, length-take}
use Rattle.std.proofs.Common.{append_assoc, append-nil}
use Rattle.std.proofs.lemmas.List.{drop-take, get_or-drop}
use Rattle.std.proofs.lemmas.List.{length-take-le}
use Rattle.dcc_wire.specs.Framing.{seen, rest, rest_at, hunting, starts_below, used_up}
use Rattle.dcc_wire.specs.Framing.{ones_at_end}
use Rattle.dcc_wire.specs.Framing.{ones_before}
use Rattle.dcc_wire.specs.Inner.OutcomesAt.{outcomes_at}
use Rattle.dcc_timing.specs.Numbers.{keep_last}
use Rattle.dcc_timing.proofs.RecentLemmas.{keep_last_keep, keep_last_behind}
use Rattle.dcc_lost.specs.Finding.{HeardState}
use Rattle.dcc_lost.specs.Unused.{Hears, unused_from, unused_at_end, unused_after, last_outcome}
use Rattle.dcc_lost.specs.Finding.{HasRead}
use Rattle.std.proofs.Common.{Bool, true, if◌then◌else◌}
use Rattle.std.specs.List.{filter}
use Rattle.dcc_lost.specs.declared.causes.OffLimits.{OffLimits}
use Rattle.dcc_lost.specs.declared.causes.ShortPreamble.{ShortPreamble}
use Rattle.dcc_lost.specs.Nearest.{nearest_class}
use Rattle.dcc_lost.specs.Lost.{longest_frame_at_end}
use Rattle.dcc_lost.specs.Causes.{is_off_one, is_off_zero, off_limits, ones_before_body, short_preamble, with_causes}
use Rattle.dcc_lost.proofs.LostLemmas.{longest_recent}

-- the numbers of unused half-bits

pub unused_from-push : (before durations : List ℕ) (us : ℕ)
    → unused_from before (durations ++ us ∷ []) ≡ unused_from before durations ++ unused_at_end (before ++ durations)
    ∷ []
unfolding unused_from
unused_from-push before [] us = rw append-nil refl
unused_from-push before (first ∷ durations) us =
    ap (λ l. unused_at_end before ∷ l)
    (unused_from-push (before ++ first ∷ []) durations us
    ∙ ap (λ l. unused_from (before ++ first ∷ []) durations ++ unused_at_end l ∷ [])
    (append_assoc before (first ∷ []) durations))

length-unused_from : (before durations : List ℕ) → length (unused_from before durations) ≡ length durations
unfolding unused_from
length-unused_from before [] = refl
length-unused_from before (us ∷ durations) = ap suc (length-unused_from (before ++ us ∷ []) durations)

unused_from-at : (before durations : List ℕ) (i : ℕ) → i < length durations
    → get_or (unused_from before durations) i 0 ≡ unused_at_end (before ++ take i durations)
unfolding unused_from
unused_from-at before [] i within = absurd (omega arith)
unused_from-at before (us ∷ durations) ℕ.zero within = ap unused_at_end (sym (append-nil before))
unused_from-at before (us ∷ durations) (suc i) within =
    unused_from-at (before ++ us ∷ []) durations i (omega arith)
    ∙ ap unused_at_end (append_assoc before (us ∷ []) (take i durations))

pub unused_none : unused_at_end [] ≡ 0
unfolding unused_at_end unused_after last_outcome seen rest rest_at hunting starts_below outcomes_at used_up ones_at_end
    ones_before
unused_none = refl

-- the number before the last so many half-bits
pub unused_before : (durations : List ℕ) (body : ℕ) → 0 < body
    → get_or (keep_last body (unused_from [] durations)) 0 0 ≡ unused_at_end (take (length durations - body) durations)
unfolding unused_from
unused_before [] body some = let none : 0 - body ≡ 0 = omega arith in rw none (sym unused_none)
unused_before (us ∷ durations) body some =
    let all : List ℕ = us ∷ durations in
    let count = length-unused_from [] all in
    let within : length all - body < length all = omega (arith, some) in
    get_or-drop (length (unused_from [] all) - body) (unused_from [] all) 0 0
    ∙ ap (λ n. get_or (unused_from [] all) n 0) (omega (arith, count))
    ∙ unused_from-at [] all (length all - body) within

-- one more half-bit

pub reads_more : (durations : List ℕ) (us : ℕ) (old new : HeardState) (last free more freer : List ℕ) (unused : ℕ)
    → HasRead old last free durations
    → Hears new.framer new.unused new.since_refusal (durations ++ us ∷ [])
    → more ≡ keep_last 130 (last ++ us ∷ []) → freer ≡ keep_last 130 (free ++ unused ∷ [])
    → unused ≡ unused_at_end durations → HasRead new more freer (durations ++ us ∷ [])
reads_more durations us old new last free more freer unused read hears takes frees is = record {
  heard = hears;
  recent = takes ∙ ap (λ l. keep_last 130 (l ++ us ∷ [])) read.recent ∙ keep_last_behind 130 durations (us ∷ []);
  unused =
      frees ∙ ap (λ l. keep_last 130 (l ++ unused ∷ [])) read.unused
      ∙ keep_last_behind 130 (unused_from [] durations) (unused ∷ [])
      ∙ ap (λ n. keep_last 130 (unused_from [] durations ++ n ∷ [])) is
      ∙ ap (keep_last 130) (sym (unused_from-push [] durations us));
}

-- parts of the last half-bits

pub last_of : (durations last : List ℕ) (n : ℕ) → last ≡ keep_last 130 durations → n ≤ 130
    → keep_last n last ≡ keep_last n durations
last_of durations last n is few = ap (keep_last n) is ∙ keep_last_keep n 130 durations few

pub before_body : (durations : List ℕ) (body count : ℕ) → count ≡ length (keep_last (body + 20) durations) - body
    → take count (keep_last (body + 20) durations) ≡ keep_last 20 (take (length durations - body) durations)
before_body durations body count is =
    let all = length durations in
    let left = length-drop (all - (body + 20)) durations in
    let front : length (take (all - body) durations) ≡ all - body =
    length-take-le (all - body) durations (omega arith) in
    let from : length (take (all - body) durations) - 20 ≡ all - (body + 20) = omega (arith, front) in
    let upto : (all - (body + 20)) + count ≡ all - body = omega (arith, is, left) in
    sym (ap (λ n. drop n (take (all - body) durations)) from
    ∙ ap (λ n. drop (all - (body + 20)) (take n durations)) (sym upto)
    ∙ drop-take (all - (body + 20)) count durations)

-- the causes of a packet at the end

causes_are : (durations frame : List ℕ) (decoder : HeardState) (last free : List ℕ) (count ones unused : ℕ)
    (short : Option ShortPreamble) (off_ones off_zeros : Option OffLimits) → HasRead decoder last free durations
    → length frame ≤ 6 → count ≡ length (keep_last (18 * length frame + 2 + 20) last) - (18 * length frame + 2)
    → ones ≡ ones_at_end (map nearest_class (take count (keep_last (18 * length frame + 2 + 20) last))) → ones ≤ 20
    → unused ≡ get_or (keep_last (18 * length frame + 2) free) 0 0
    → short ≡ short_preamble ones unused decoder.since_refusal
    → off_ones ≡ off_limits (filter is_off_one (keep_last (18 * length frame + 2 + ones) last))
    → off_zeros ≡ off_limits (filter is_off_zero (keep_last (18 * length frame + 2 + ones) last))
    → record { frame = frame; preamble = short; ones = off_ones; zeros = off_zeros } ≡ with_causes durations frame
unfolding with_causes ones_before_body
causes_are durations frame decoder last free count ones unused short off_ones off_zeros read few is ones_are some
    unused_are
    shorts one zero =
    let body : ℕ = 18 * length frame + 2 in
    let window = last_of durations last (body + 20) read.recent (omega arith) in
    let before : ones ≡ ones_at_end (map nearest_class (keep_last 20 (take (length durations - body) durations))) =
    ones_are ∙ ap (λ l. ones_at_end (map nearest_class (take count l))) window
    ∙ ap (λ l. ones_at_end (map nearest_class l))
    (before_body durations body count (is ∙ ap (λ l. length l - body) window)) in
    let counted = last_of durations last (body + ones) read.recent (omega (arith, some)) in
    let left : unused ≡ unused_at_end (take (length durations - body) durations) =
    unused_are ∙ ap (λ l. get_or (keep_last body l) 0 0) read.unused
    ∙ ap (λ l. get_or l 0 0) (keep_last_keep body 130 (unused_from [] durations) (omega arith))
    ∙ unused_before durations body (omega arith) in
    rw (shorts, one, zero, counted, left, read.heard.refused, ← before)

pub causes_found : (durations frame bytes : List ℕ) (decoder : HeardState) (last free window counted before : List ℕ)
    (count ones unused : ℕ) (since : Option ℕ) (short : Option ShortPreamble) (off_ones off_zeros : Option OffLimits)
    → HasRead decoder last free durations → length bytes ≤ 6 → bytes ≡ frame
    → window ≡ keep_last (18 * length bytes + 2 + 20) last → count ≡ length window - (18 * length bytes + 2)
    → ones ≡ ones_at_end (map nearest_class (take count window)) → ones ≤ 20
    → counted ≡ keep_last (18 * length bytes + 2 + ones) last → before ≡ keep_last (18 * length bytes + 2) free
    → unused ≡ get_or before 0 0 → since ≡ decoder.since_refusal → short ≡ short_preamble ones unused since
    → off_ones ≡ off_limits (filter is_off_one counted) → off_zeros ≡ off_limits (filter is_off_zero counted)
    → record { frame = frame; preamble = short; ones = off_ones; zeros = off_zeros } ≡ with_causes durations frame
causes_found durations frame bytes decoder last free window counted before count ones unused since short off_ones
    off_zeros
    read few same windows counts ones_are some counteds befores unuseds sinces shorts one zero =
    ap (λ (l : List ℕ). record { frame = l; preamble = short; ones = off_ones; zeros = off_zeros }) (sym same)
    ∙ causes_are durations bytes decoder last free count ones unused short off_ones off_zeros read few
    (counts ∙ ap (λ l. length l - (18 * length bytes + 2)) windows)
    (ones_are ∙ ap (λ l. ones_at_end (map nearest_class (take count l))) windows) some
    (unuseds ∙ ap (λ l. get_or l 0 0) befores) (shorts ∙ ap (short_preamble ones unused) sinces)
    (one ∙ ap (λ l. off_limits (filter is_off_one l)) counteds)
    (zero ∙ ap (λ l. off_limits (filter is_off_zero l)) counteds)
    ∙ ap (with_causes durations) same

-- the packet of a list, if no body is unfinished

pub unheard_frame : (hunts : Bool) (longest : Option (List ℕ)) → hunts ≡ true
    → (if hunts then longest else None) ≡ longest
unheard_frame hunts longest so = rw so

pub longest_is : (durations last : List ℕ) (longest : Option (List ℕ)) → last ≡ keep_last 130 durations
    → longest ≡ longest_frame_at_end last → longest ≡ longest_frame_at_end durations
longest_is durations last longest is e = e ∙ ap longest_frame_at_end is ∙ longest_recent durations

pub few_before : (last window : List ℕ) (body count ones : ℕ) → window ≡ keep_last (body + 20) last
    → count ≡ length window - body → ones ≤ length (take count window) → ones ≤ 20
few_before last window body count ones is counts few =
    omega (arith, few, counts, ap length is, length-drop (length last - (body + 20)) last, length-take count window)
