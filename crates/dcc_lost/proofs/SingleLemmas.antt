-- Joined half-bits without spikes.
use Rattle.std.proofs.Common.{◌≡◌, ℕ, ◌+◌, ◌<◌, ◌≤◌, Bool, true, false, not, List, [], ◌∷◌, ◌++◌}
use Rattle.std.proofs.Common.{length, map, sum, fold, if◌then◌else◌, All, nat_lt, ◌⊎◌, inl, inr}
use Rattle.std.proofs.Common.{refl, sym, ap, ◌∙◌, subst, arith, append_assoc, length-append}
use Rattle.std.proofs.lemmas.Bool.{cases_Bool}
use Rattle.std.proofs.lemmas.Bool.Decides.{nat_tests}
use Rattle.std.proofs.lemmas.List.Sums.{sum_by-cons}
use Rattle.std.proofs.lemmas.List.Elements.{All-append, All-cons, All-head, All-nil, All-tail}
use Rattle.std.specs.List.{count_by}
use Rattle.dcc_lost.specs.Joined.{Joining, closes, halves_of_all, join_next, joined, joining_of}
use Rattle.dcc_lost.specs.Joined.{nothing_joined, spikes_in}
use Rattle.dcc_lost.specs.JoinedLaws.{OnlySpikesAreJoined}
use Rattle.dcc_lost.proofs.JoinedLemmas.{closed_by, count_by-append, joining-push, next_closed, next_taken}
use Rattle.dcc_lost.proofs.JoinedLemmas.{one_spike, taken_by}

abbrev pub single : ℕ → List ℕ
single us = us ∷ []

pub long_is : (limit us : ℕ) → limit ≤ us → nat_lt us limit ≡ false
long_is limit us enough = grind (arith, nat_tests)

-- a list without spikes

all_joined : Joining → List (List ℕ)
all_joined joining = joining.closed ++ joining.newest ∷ []

singles_from : (limit us : ℕ) (closed : List (List ℕ)) (durations : List ℕ)
    → All (λ half. limit ≤ half) durations
    → all_joined (fold (join_next limit) (record { closed = closed; newest = us ∷ []; takes_next = false }) durations)
    ≡ closed ++ map single (us ∷ durations)
unfolding all_joined
singles_from limit us closed [] long = refl
singles_from limit us closed (next ∷ durations) long =
    let now : Joining = record { closed = closed; newest = us ∷ []; takes_next = false } in
    let here = closed_by limit next now (long_is limit next (All-head (λ half. limit ≤ half) next durations long)) refl
    in
    ap (λ (j : Joining). all_joined (fold (join_next limit) j durations)) (next_closed limit now next here)
    ∙ singles_from limit next (closed ++ (us ∷ []) ∷ []) durations
    (All-tail (λ half. limit ≤ half) next durations long)
    ∙ append_assoc closed ((us ∷ []) ∷ []) (map single (next ∷ durations))

pub singles_law : OnlySpikesAreJoined
unfolding joined joining_of all_joined
singles_law limit us durations long =
    let first = All-head (λ half. limit ≤ half) us durations long in
    let other = taken_by limit us nothing_joined (inr refl) in
    let start : join_next limit nothing_joined us ≡ record { closed = []; newest = us ∷ []; takes_next = false } =
    next_taken limit nothing_joined us other ∙ rw (long_is limit us first) refl in
    ap (λ (j : Joining). all_joined (fold (join_next limit) j durations)) start
    ∙ singles_from limit us [] durations (All-tail (λ half. limit ≤ half) us durations long)

-- a joined half-bit without spikes

-- a joined half-bit without spikes has one half-bit
abbrev pub IsSingle : ℕ → List ℕ → Type 0
IsSingle limit group = count_by (λ us. nat_lt us limit) group ≡ 0 → length group ≡ 1

record AreSingles (limit : ℕ) (joining : Joining) : Type 0 where
  closed : All (IsSingle limit) joining.closed
  taking : joining.takes_next ≡ true → (joining.newest ≡ []) ⊎ (0 < count_by (λ us. nat_lt us limit) joining.newest)
  complete : joining.takes_next ≡ false → IsSingle limit joining.newest

closing_is : (limit us : ℕ) (joining : Joining) → closes limit joining us ≡ true
    → (nat_lt us limit ≡ false) × (joining.takes_next ≡ false)
closing_is limit us joining e = go (nat_lt us limit) joining.takes_next e
  where
    go : (short takes : Bool) → (if short then false else not takes) ≡ true → (short ≡ false) × (takes ≡ false)
    go true takes e = cc
    go false true e = cc
    go false false e = (refl, refl)

taken_is : (limit us : ℕ) (joining : Joining) → closes limit joining us ≡ false → nat_lt us limit ≡ false
    → joining.takes_next ≡ true
taken_is limit us joining e long = go joining.takes_next (rw long at e)
  where
    go : (takes : Bool) → not takes ≡ false → takes ≡ true
    go true e = refl
    go false e = cc

more_spikes : (limit us : ℕ) (group : List ℕ)
    → count_by (λ us. nat_lt us limit) (group ++ us ∷ [])
    ≡ count_by (λ us. nat_lt us limit) group + (if nat_lt us limit then 1 else 0)
more_spikes limit us group =
    count_by-append (λ us. nat_lt us limit) group (us ∷ [])
    ∙ ap (λ n. count_by (λ us. nat_lt us limit) group + n) (one_spike limit us)

singles_next : (limit us : ℕ) (joining : Joining) → AreSingles limit joining
    → AreSingles limit (join_next limit joining us)
singles_next limit us joining are = elim (cases_Bool (closes limit joining us)) [
  | inl closing ↦
      let is = closing_is limit us joining closing in
      subst (AreSingles limit) (sym (next_closed limit joining us closing)) (record {
        closed = All-append (IsSingle limit) joining.closed (joining.newest ∷ []) are.closed
            (All-cons (IsSingle limit) joining.newest [] (are.complete is.1) (All-nil (IsSingle limit)));
        taking = λ e. absurd cc;
        complete = λ e none. refl;
      })
  | inr other ↦
      subst (AreSingles limit) (sym (next_taken limit joining us other)) (elim (cases_Bool (nat_lt us limit)) [
        | inl short ↦
            let some : 0 < count_by (λ us. nat_lt us limit) (joining.newest ++ us ∷ []) =
            rw (more_spikes limit us joining.newest, short) (omega arith) in
            record {
              closed = are.closed;
              taking = λ e. inr some;
              complete = λ e none. absurd (omega
                  (arith, some, none));
            }
        | inr long ↦
            record {
              closed = are.closed;
              taking = λ e. absurd (cc (rw long at e));
              complete = λ e none. elim (are.taking (taken_is limit us joining other long)) [
                | inl empty ↦ rw empty refl
                | inr some ↦ absurd (omega (arith, some, none, more_spikes limit us joining.newest))
              ];
            }
      ])
]

singles_of : (limit : ℕ) (joining : Joining) (durations : List ℕ) → AreSingles limit joining
    → AreSingles limit (fold (join_next limit) joining durations)
singles_of limit joining [] are = are
singles_of limit joining (us ∷ durations) are =
    singles_of limit (join_next limit joining us) durations (singles_next limit us joining are)

-- the newest joined half-bit ends with the last half-bit
pub newest_ends : (limit : ℕ) (durations : List ℕ) (us : ℕ)
    → (front : List ℕ) × ((joining_of limit (durations ++ us ∷ [])).newest ≡ front ++ us ∷ [])
newest_ends limit durations us = elim (cases_Bool (closes limit (joining_of limit durations) us)) [
  | inl closing ↦ (
    [],
    ap (λ (j : Joining). j.newest) (joining-push limit durations us
        ∙ next_closed limit (joining_of limit durations) us closing),
  )
  | inr other ↦ (
    (joining_of limit durations).newest,
    ap (λ (j : Joining). j.newest) (joining-push limit durations us
        ∙ next_taken limit (joining_of limit durations) us other),
  )
]

pub joined_singles : (limit : ℕ) (durations : List ℕ) (us : ℕ)
    → All (IsSingle limit) (joined limit (durations ++ us ∷ []))
unfolding joined joining_of
joined_singles limit durations us =
    let now : Joining = joining_of limit (durations ++ us ∷ []) in
    let are = singles_of limit nothing_joined (durations ++ us ∷ []) (record {
      closed = All-nil (IsSingle limit);
      taking = λ e. inl refl;
      complete = λ e. absurd cc;
    }) in
    let ends = newest_ends limit durations us in
    let last : IsSingle limit now.newest = elim (cases_Bool now.takes_next) [
      | inr closed ↦ are.complete closed
      | inl takes ↦ λ none. elim (are.taking takes) [
        | inl empty ↦ absurd (omega (arith, ap length empty, ap length ends.1, length-append ends.0 (us ∷ [])))
        | inr some ↦ absurd (omega (arith, some, none))
      ]
    ] in
    All-append (IsSingle limit) now.closed (now.newest ∷ []) are.closed
    (All-cons (IsSingle limit) now.newest [] last (All-nil (IsSingle limit)))

-- joined half-bits without spikes are half-bits of the list

pub spikes_none : (limit : ℕ) (groups : List (List ℕ)) → sum (map (spikes_in limit) groups) ≡ 0
    → All (IsSingle limit) groups → groups ≡ map single (halves_of_all groups)
spikes_none limit [] none are = refl
spikes_none limit (group ∷ groups) none are =
    let first = sum_by-cons (λ n. n) (spikes_in limit group) (map (spikes_in limit) groups) in
    let one = All-head (IsSingle limit) group groups are (omega (arith, none, first)) in
    let others = spikes_none limit groups (omega (arith, none, first)) (All-tail (IsSingle limit) group groups are) in
    only_one group one others
  where
    only_one : (group : List ℕ) → length group ≡ 1 → groups ≡ map single (halves_of_all groups)
        → group ∷ groups ≡ map single (group ++ halves_of_all groups)
    only_one [] e others = absurd (omega (arith, e))
    only_one (us ∷ []) e others = ap (λ l. (us ∷ []) ∷ l) others
    only_one (us ∷ next ∷ group) e others = absurd (omega (arith, e))
