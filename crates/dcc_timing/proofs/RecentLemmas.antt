-- The last numbers of a list that grows.
use Rattle.std.proofs.Common.{◌≡◌, ℕ, ◌+◌, ◌-◌, ◌≤◌, min, List, ◌++◌, length, drop, replicate, refl, sym, ap, ◌∙◌}
use Rattle.std.proofs.Common.{arith}
use Rattle.std.proofs.Common.{[], ◌∷◌, inl, inr, length-append, length-drop, append_assoc, take, length-take-le}
use lib.Seq.{paste}
use Rattle.std.proofs.Common.{◌<◌, slice_set}
use Rattle.std.proofs.lemmas.List.{drop-take, take_more_set}
use Rattle.std.proofs.lemmas.List.Edits.{take-paste}
use Rattle.std.proofs.lemmas.List.{drop-append-le, drop-drop, drop-replicate, drop_at, length-replicate}
use Rattle.std.proofs.lemmas.List.{replicate-append-replicate}
use Rattle.std.proofs.lemmas.Bool.{cases_lt}
use Rattle.std.proofs.lemmas.Slice.{take-put_mid}
use Rattle.std.proofs.Math.Seq.{take-add}
use borrow.Rule.Slice.PartMut.{put_mid}
use Rattle.dcc_timing.specs.Numbers.{keep_last}

-- what stood before them does not count
pub keep_last_behind : (k : ℕ) (xs ys : List ℕ) → keep_last k (keep_last k xs ++ ys) ≡ keep_last k (xs ++ ys)
keep_last_behind k xs ys =
    let d : ℕ = length xs - k in
    let within : d ≤ length xs = omega arith in
    let front : drop d xs ++ ys ≡ drop d (xs ++ ys) = sym (drop-append-le d xs ys within) in
    let shorter : length (drop d xs ++ ys) ≡ (length xs - d) + length ys =
    length-append (drop d xs) ys ∙ ap (λ n. n + length ys) (length-drop d xs) in
    let longer = length-append xs ys in
    let place : d + (length (drop d xs ++ ys) - k) ≡ length (xs ++ ys) - k = omega (arith, shorter, longer) in
    ap (λ l. drop (length (drop d xs ++ ys) - k) l) front
    ∙ drop-drop (length (drop d xs ++ ys) - k) d (xs ++ ys)
    ∙ ap (λ n. drop n (xs ++ ys)) place

-- more half-bits of a run
pub recent_more : (halves before after : List ℕ) (us k more : ℕ) → before ≡ keep_last 130 (halves ++ replicate k us)
    → after ≡ keep_last 130 (before ++ replicate more us) → after ≡ keep_last 130 (halves ++ replicate (k + more) us)
recent_more halves before after us k more so takes =
    takes ∙ ap (λ l. keep_last 130 (l ++ replicate more us)) so
    ∙ keep_last_behind 130 (halves ++ replicate k us) (replicate more us)
    ∙ ap (λ l. keep_last 130 l) (append_assoc halves (replicate k us) (replicate more us)
    ∙ ap (λ l. halves ++ l) (replicate-append-replicate k more us))

-- the last 130 numbers of a list with one number more
pub half_behind : (halves : List ℕ) (us : ℕ) (last next : List ℕ) → last ≡ keep_last 130 halves
    → next ≡ keep_last 130 (last ++ us ∷ []) → next ≡ keep_last 130 (halves ++ us ∷ [])
half_behind halves us last next is e =
    e ∙ ap (λ l. keep_last 130 (l ++ us ∷ [])) is ∙ keep_last_behind 130 halves (us ∷ [])

-- a list that ends in so many of one number ends in those alone
keep_last_run : (k n us : ℕ) (halves : List ℕ) → k ≤ n → keep_last k (halves ++ replicate n us) ≡ replicate k us
keep_last_run k n us halves enough =
    let long : length (halves ++ replicate n us) ≡ length halves + n =
    length-append halves (replicate n us) ∙ ap (λ m. length halves + m) (length-replicate n us) in
    let place : length (halves ++ replicate n us) - k ≡ length halves + (n - k) = omega (arith, long, enough) in
    let left : n - (n - k) ≡ k = omega (arith, enough) in
    ap (λ m. drop m (halves ++ replicate n us)) place
    ∙ sym (drop-drop (n - k) (length halves) (halves ++ replicate n us))
    ∙ ap (λ l. drop (n - k) l) (drop_at halves (replicate n us) (length halves) refl)
    ∙ drop-replicate (n - k) n us
    ∙ ap (λ m. replicate m us) left

-- of a long run the first halves do not count
pub recent_all : (halves now : List ℕ) (us n k : ℕ) → now ≡ keep_last 130 (halves ++ replicate k us) → k ≡ min n 130
    → now ≡ keep_last 130 (halves ++ replicate n us)
recent_all halves now us n k so few = elim (cases_lt 130 n) [
  | inl long ↦
      let same : k ≡ 130 = omega (arith, few, long) in
      so ∙ keep_last_run 130 k us halves (omega (arith, same))
      ∙ sym (keep_last_run 130 n us halves (omega (arith, long)))
  | inr short ↦
      let same : k ≡ n = omega (arith, few, short) in so ∙ ap (λ m. keep_last 130 (halves ++ replicate m us)) same
]

-- fewer of the last ones
pub keep_last_keep : (few many : ℕ) (xs : List ℕ) → few ≤ many → keep_last few (keep_last many xs) ≡ keep_last few xs
keep_last_keep few many xs less =
    let d : ℕ = length xs - many in
    let left : length (drop d xs) ≡ length xs - d = length-drop d xs in
    let place : d + (length (drop d xs) - few) ≡ length xs - few = omega (arith, left, less) in
    drop-drop (length (drop d xs) - few) d xs ∙ ap (λ n. drop n xs) place

-- one more number behind those of an array
pub appended : (before after : List ℕ) (number : ℕ) → after ≡ before ++ number ∷ []
    → keep_last 130 after ≡ keep_last 130 (keep_last 130 before ++ number ∷ [])
appended before after number e = ap (keep_last 130) e ∙ sym (keep_last_behind 130 before (number ∷ []))

-- one more number at the first free place of an array
pub added : (numbers new : List ℕ) (len at number : ℕ) → at ≡ len → len < length numbers
    → new ≡ slice_set numbers at number
    → keep_last 130 (take (len + 1) new) ≡ keep_last 130 (keep_last 130 (take len numbers) ++ number ∷ [])
added numbers new len at number is within e =
    appended (take len numbers) (take (len + 1) new) number
    (ap (take (len + 1)) e ∙ ap (λ k. take (len + 1) (slice_set numbers k number)) is
    ∙ take_more_set numbers len number within)

-- the last numbers of a full array, moved to its front
pub moved_to_front : (all new : List ℕ) → length all ≡ 192 → new ≡ paste all 0 (drop 62 all) (192 - 62)
    → keep_last 130 (take 130 new) ≡ keep_last 130 (take 192 all)
moved_to_front all new long e =
    let whole : length (take 192 all) ≡ 192 = length-take-le 192 all (omega (arith, long)) in
    let place : 62 ≡ length (take 192 all) - 130 = omega (arith, whole) in
    let front : take 130 new ≡ keep_last 130 (take 192 all) =
    ap (take 130) e ∙ take-paste all 0 (drop 62 all) 130 (omega arith) (omega (arith, long, length-drop 62 all))
    ∙ sym (drop-take 62 130 all) ∙ ap (λ k. drop k (take 192 all)) place in
    ap (keep_last 130) front ∙ keep_last_keep 130 130 (take 192 all) (omega arith)

-- the last numbers of those at the first places of an array
pub last_places : (all part : List ℕ) (len n to start : ℕ) → len ≤ length all → n ≤ 130 → to ≡ len → start ≡ to - n
    → part ≡ take (to - start) (drop start all) → part ≡ keep_last n (keep_last 130 (take len all))
last_places all part len n to start within few same from e =
    let count : length (take len all) ≡ len = length-take-le len all within in
    let end : start + (to - start) ≡ len = omega (arith, same, from) in
    let begin : start ≡ length (take len all) - n = omega (arith, same, from, count) in
    e ∙ sym (drop-take start (to - start) all) ∙ ap (λ k. drop start (take k all)) end
    ∙ ap (λ k. drop k (take len all)) begin ∙ sym (keep_last_keep n 130 (take len all) few)

-- more numbers at the first free places of an array
pub added_all : (numbers new more mid : List ℕ) (len at k end : ℕ) → at ≡ len → end ≡ at + length more
    → len + length more ≤ length numbers → mid ≡ more → new ≡ put_mid at k numbers mid
    → keep_last 130 (take end new) ≡ keep_last 130 (keep_last 130 (take len numbers) ++ more)
added_all numbers new more mid len at k end is ends within same e =
    let place : end ≡ at + length mid = rw same ends in
    let front : take end new ≡ take len numbers ++ more =
    ap (take end) e ∙ take-put_mid at k numbers mid end place (omega (arith, is, within))
    ∙ ap (λ n. take n numbers ++ mid) is ∙ ap (λ l. take len numbers ++ l) same in
    ap (keep_last 130) front ∙ sym (keep_last_behind 130 (take len numbers) more)

-- some of the numbers that follow a list
pub appended_some : (list numbers before after : List ℕ) (at count end : ℕ) → end ≡ at + count
    → before ≡ keep_last 130 (list ++ take at numbers)
    → after ≡ keep_last 130 (before ++ take (end - at) (drop at numbers))
    → after ≡ keep_last 130 (list ++ take (at + count) numbers)
appended_some list numbers before after at count end is so takes =
    let some : end - at ≡ count = omega (arith, is) in
    takes ∙ ap (λ n. keep_last 130 (before ++ take n (drop at numbers))) some
    ∙ ap (λ l. keep_last 130 (l ++ take count (drop at numbers))) so
    ∙ keep_last_behind 130 (list ++ take at numbers) (take count (drop at numbers))
    ∙ ap (keep_last 130) (append_assoc list (take at numbers) (take count (drop at numbers))
    ∙ ap (λ l. list ++ l) (sym (take-add at count numbers)))

-- copies of a number at the first free places of an array
pub added_copies : (numbers mid part : List ℕ) (len at k end count number : ℕ) → at ≡ len → end ≡ at + count
    → len + count ≤ length numbers → length part ≡ count → mid ≡ replicate (length part) number
    → keep_last 130 (take end (put_mid at k numbers mid))
    ≡ keep_last 130 (keep_last 130 (take len numbers) ++ replicate count number)
added_copies numbers mid part len at k end count number is ends within long fills =
    let many : length (replicate count number) ≡ count = length-replicate count number in
    added_all numbers (put_mid at k numbers mid) (replicate count number) mid len at k end is
    (rw many ends) (rw many within) (fills ∙ ap (λ n. replicate n number) long) refl
