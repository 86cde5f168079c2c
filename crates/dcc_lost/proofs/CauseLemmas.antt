-- Half-bits outside the limits, and half-bits of ones at the end of a list.
use Rattle.std.proofs.Common.{◌≡◌, ◌≢◌, ℕ, suc, ◌+◌, ◌-◌, ◌<◌, ◌≤◌, min, max, List, [], ◌∷◌, ◌++◌, length, take, get_or}
use Rattle.std.proofs.Common.{map}
use Rattle.std.proofs.Common.{Option, Some, None, refl, sym, ap, ◌∙◌, arith, add-one, fold, length-append, Bool, true}
use Rattle.std.proofs.Common.{false}
use Rattle.std.proofs.Common.{append-nil, IfSome, length-take}
use Rattle.std.proofs.Math.Seq.{take-suc}
use Rattle.std.proofs.lemmas.List.{take_all, map-append, reverse-append}
use Rattle.std.proofs.lemmas.List.Sums.{fold-append, length-filter, count_by-le-length}
use Rattle.std.proofs.lemmas.List.Elements.{filter-append}
use Rattle.std.specs.List.{filter}
use Rattle.dcc_wire.specs.declared.half.Half.{Half}
use Rattle.dcc_wire.specs.declared.half.Half.TheVariants.{One, Zero, Bad}
use Rattle.dcc_wire.proofs.ByteBits.{some_same}
use Rattle.dcc_wire.specs.Framing.{ones_before, ones_at_end}
use Rattle.dcc_lost.specs.declared.causes.OffLimits.{OffLimits}
use Rattle.dcc_lost.specs.Nearest.{nearest_class}
use Rattle.dcc_lost.specs.Causes.{off_limits}

-- figures with one more half-bit

pub off_limits-first : (us : ℕ) (durations : List ℕ) → None ≡ off_limits durations
    → Some (record { count = 1; least = us; most = us }) ≡ off_limits (durations ++ us ∷ [])
unfolding off_limits
off_limits-first us [] e = refl
off_limits-first us (first ∷ durations) e = cc

pub off_limits-more : (us count least most : ℕ) (durations : List ℕ)
    → Some (record { count = count; least = least; most = most }) ≡ off_limits durations
    → Some (record { count = count + 1; least = min least us; most = max most us }) ≡ off_limits (durations ++ us ∷ [])
unfolding off_limits
off_limits-more us count least most [] e = cc
off_limits-more us count least most (first ∷ durations) e =
    let same = some_same e in
    let n : suc (length (durations ++ us ∷ [])) ≡ count + 1 =
    omega (arith, length-append durations (us ∷ []), ap (λ (figures : OffLimits). figures.count) same) in
    let low : fold min first (durations ++ us ∷ []) ≡ min least us =
    fold-append min first durations (us ∷ [])
    ∙ ap (λ x. min x us) (sym (ap (λ (figures : OffLimits). figures.least) same)) in
    let high : fold max first (durations ++ us ∷ []) ≡ max most us =
    fold-append max first durations (us ∷ [])
    ∙ ap (λ x. max x us) (sym (ap (λ (figures : OffLimits). figures.most) same)) in
    rw (n, low, high)

filter-one : (has_kind : ℕ → Bool) (durations : List ℕ) (us : ℕ) → has_kind us ≡ true
    → filter has_kind (durations ++ us ∷ []) ≡ filter has_kind durations ++ us ∷ []
filter-one has_kind durations us kind = filter-append has_kind durations (us ∷ []) ∙ rw kind

pub noted-first : (has_kind : ℕ → Bool) (durations : List ℕ) (us : ℕ) → has_kind us ≡ true
    → None ≡ off_limits (filter has_kind durations)
    → Some (record { count = 1; least = us; most = us }) ≡ off_limits (filter has_kind (durations ++ us ∷ []))
noted-first has_kind durations us kind e =
    off_limits-first us (filter has_kind durations) e ∙ ap off_limits (sym (filter-one has_kind durations us kind))

pub noted-more : (has_kind : ℕ → Bool) (durations : List ℕ) (us count least most : ℕ) → has_kind us ≡ true
    → Some (record { count = count; least = least; most = most }) ≡ off_limits (filter has_kind durations)
    → Some (record { count = count + 1; least = min least us; most = max most us })
    ≡ off_limits (filter has_kind (durations ++ us ∷ []))
noted-more has_kind durations us count least most kind e =
    off_limits-more us count least most (filter has_kind durations) e
    ∙ ap off_limits (sym (filter-one has_kind durations us kind))

pub not_noted : (has_kind : ℕ → Bool) (durations : List ℕ) (us : ℕ) (off : Option OffLimits) → has_kind us ≡ false
    → off ≡ off_limits (filter has_kind durations) → off ≡ off_limits (filter has_kind (durations ++ us ∷ []))
not_noted has_kind durations us off other e =
    e ∙ ap off_limits (sym
    (filter-append has_kind durations (us ∷ []) ∙ rw other (append-nil (filter has_kind durations))))

count_few : (n : ℕ) (durations : List ℕ) → length durations ≤ n
    → IfSome (off_limits durations) (λ figures. figures.count ≤ n)
unfolding off_limits
count_few n [] few = tt
count_few n (us ∷ durations) few = few

pub few_noted : (has_kind : ℕ → Bool) (halves : List ℕ) (i : ℕ) (off : Option OffLimits) → length halves ≤ 1000
    → off ≡ off_limits (filter has_kind (take i halves)) → IfSome off (λ figures. figures.count ≤ 1000)
few_noted has_kind halves i off few e =
    rw e (count_few 1000 (filter has_kind (take i halves))
    (omega (
      arith,
      length-filter has_kind (take i halves),
      count_by-le-length has_kind (take i halves),
      length-take i
          halves,
    )))

pub noted_next : (has_kind : ℕ → Bool) (halves : List ℕ) (i : ℕ) (off : Option OffLimits) → i < length halves
    → off ≡ off_limits (filter has_kind (take i halves ++ get_or halves i 0 ∷ []))
    → off ≡ off_limits (filter has_kind (take (i + 1) halves))
noted_next has_kind halves i off within e =
    e ∙ ap (λ l. off_limits (filter has_kind l)) (sym (rw add-one (take-suc halves i 0 within)))

pub noted_all : (has_kind : ℕ → Bool) (halves : List ℕ) (i : ℕ) (off : Option OffLimits) → length halves ≡ i
    → off ≡ off_limits (filter has_kind (take i halves)) → off ≡ off_limits (filter has_kind halves)
noted_all has_kind halves i off all e =
    e ∙ ap (λ l. off_limits (filter has_kind l)) (take_all i halves (omega (arith, all)))

-- ones at the end

pub ones_at_end-one : (halves : List Half) (half : Half) → half ≡ One
    → ones_at_end (halves ++ half ∷ []) ≡ suc (ones_at_end halves)
unfolding ones_at_end ones_before
ones_at_end-one halves half e = rw (reverse-append, e)

pub ones_at_end-other : (halves : List Half) (half : Half) → half ≢ One → ones_at_end (halves ++ half ∷ []) ≡ 0
unfolding ones_at_end ones_before
ones_at_end-other halves One ne = absurd (ne refl)
ones_at_end-other halves Zero ne = rw reverse-append
ones_at_end-other halves Bad ne = rw reverse-append

front_push : (halves : List ℕ) (n : ℕ) → n < length halves
    → map nearest_class (take (length halves - n) halves)
    ≡ map nearest_class (take (length halves - (n + 1)) halves)
    ++ nearest_class (get_or halves (length halves - 1 - n) 0) ∷ []
front_push halves n within =
    let place : length halves - 1 - n ≡ length halves - (n + 1) = omega arith in
    let next : length halves - n ≡ suc (length halves - (n + 1)) = omega arith in
    let below : length halves - (n + 1) < length halves = omega arith in
    rw (place, next, take-suc halves (length halves - (n + 1)) 0 below)
    (map-append nearest_class (take (length halves - (n + 1)) halves) (get_or halves (length halves - (n + 1)) 0 ∷ []))

pub end_goes_on : (halves : List ℕ) (n total : ℕ) → n < length halves
    → nearest_class (get_or halves (length halves - 1 - n) 0) ≡ One
    → total ≡ n + ones_at_end (map nearest_class (take (length halves - n) halves))
    → total ≡ n + 1 + ones_at_end (map nearest_class (take (length halves - (n + 1)) halves))
end_goes_on halves n total within one so =
    let more = ap ones_at_end (front_push halves n within)
    ∙ ones_at_end-one (map nearest_class (take (length halves - (n + 1)) halves)) _ one in
    omega (arith, so, more)

pub end_stops : (halves : List ℕ) (n total : ℕ) → n < length halves
    → nearest_class (get_or halves (length halves - 1 - n) 0) ≢ One
    → total ≡ n + ones_at_end (map nearest_class (take (length halves - n) halves)) → n ≡ total
end_stops halves n total within other so =
    let none = ap ones_at_end (front_push halves n within)
    ∙ ones_at_end-other (map nearest_class (take (length halves - (n + 1)) halves)) _ other in
    omega (arith, so, none)

pub end_all : (halves : List ℕ) (n total : ℕ) → length halves ≤ n
    → total ≡ n + ones_at_end (map nearest_class (take (length halves - n) halves)) → n ≡ total
unfolding ones_at_end ones_before
end_all halves n total past so =
    let zero : length halves - n ≡ 0 = omega arith in
    let none : ones_at_end (map nearest_class (take (length halves - n) halves)) ≡ 0 = rw zero in
    omega (arith, so, none)

pub end_none : (halves : List ℕ) → ones_at_end (map nearest_class halves)
    ≡ 0 + ones_at_end (map nearest_class (take (length halves - 0) halves))
end_none halves = rw (take_all (length halves - 0) halves (omega arith)) (omega arith)
