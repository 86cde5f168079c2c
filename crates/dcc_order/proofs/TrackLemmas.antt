-- Tracks in pieces, and fleets member by member.
use Rattle.std.proofs.Common.{zero, suc, get_or, arith, ◌≤◌, ◌≡◌, ℕ, ◌+◌, ◌<◌, List, [], ◌∷◌, ◌++◌, map, length, take}
use Rattle.std.proofs.Common.{slice_index_or, Bor}
use Rattle.std.proofs.Math.ListN.{set}
use Rattle.std.specs.Prelude.{⊤}
use Rattle.std.proofs.lemmas.List.{map-append, append-nil, take_more}
use Rattle.std.proofs.lemmas.List.Folds.{concat-append}
use Rattle.std.specs.List.{AllZip}
use Rattle.dcc_order.specs.Hearing.{whole_track}

-- one piece more
pub piece_more : (pieces : List (Bor (List ℕ))) (n : ℕ) (d : Bor (List ℕ)) → n < length pieces
    → whole_track (take (n + 1) pieces) ≡ whole_track (take n pieces) ++ (slice_index_or pieces n d).now
piece_more pieces n d h = rw (take_more pieces n d h) (simp (map-append, concat-append, append-nil))

-- the first n elements of a list were changed as R says, and the others were not
abbrev pub SteppedTo : {A : Type 0} → (A → A → Type 0) → ℕ → List A → List A → Type 0
SteppedTo R zero xs ys = ys ≡ xs
SteppedTo R (suc n) [] [] = ⊤
SteppedTo R (suc n) (x ∷ xs) (y ∷ ys) = R x y × SteppedTo R n xs ys
SteppedTo R n xs ys = ⊥

-- one more element is changed
pub SteppedTo-more : {A : Type 0} → (R : A → A → Type 0) (n : ℕ) (xs ys : List A) (d y : A) → n < length xs
    → SteppedTo R n xs ys → R (get_or ys n d) y → SteppedTo R (suc n) xs (set ys n y)
SteppedTo-more R n [] ys d y h s r = absurd (omega arith)
SteppedTo-more R zero (x ∷ xs) (z ∷ zs) d y h s r = let first : x ≡ z = cc in (rw first r, cc)
SteppedTo-more R (suc n) (x ∷ xs) (z ∷ zs) d y h s r = (s.0, SteppedTo-more R n xs zs d y (omega arith) s.1 r)
SteppedTo-more R zero xs ys d y h s r = absurd (cc)
SteppedTo-more R n xs ys d y h s r = absurd s

-- all elements were changed
pub AllZip-from_stepped : {A : Type 0} → (R : A → A → Type 0) (n : ℕ) (xs ys : List A) → length xs ≤ n
    → SteppedTo R n xs ys → AllZip R xs ys
AllZip-from_stepped R n [] [] h s = tt
AllZip-from_stepped R zero (x ∷ xs) ys h s = absurd (omega arith)
AllZip-from_stepped R (suc n) (x ∷ xs) (y ∷ ys) h s = (s.0, AllZip-from_stepped R n xs ys (omega arith) s.1)
AllZip-from_stepped R zero xs ys h s = absurd (cc)
AllZip-from_stepped R n xs ys h s = absurd s

-- two relations of each element, one after the other
pub AllZip-then : {A B C : Type 0} → (R : A → B → Type 0) (S : B → C → Type 0) (T : A → C → Type 0)
    → ((x : A) (y : B) (z : C) → R x y → S y z → T x z)
    → (xs : List A) (ys : List B) (zs : List C) → AllZip R xs ys → AllZip S ys zs → AllZip T xs zs
AllZip-then R S T join [] [] [] r s = tt
AllZip-then R S T join (x ∷ xs) (y ∷ ys) (z ∷ zs) r s = (join x y z r.0 s.0, AllZip-then R S T join xs ys zs r.1 s.1)
AllZip-then R S T join xs ys zs r s = absurd (assumption)

-- each element is as it was
pub AllZip-same : {A : Type 0} → (R : A → A → Type 0) → ((x : A) → R x x) → (xs : List A) → AllZip R xs xs
AllZip-same R same [] = tt
AllZip-same R same (x ∷ xs) = (same x, AllZip-same R same xs)

-- what is so of the view of each member is so of each member
pub AllZip-viewed : {A B C : Type 0} → (v : A → B) (R : B → C → Type 0) (xs : List A) (ys : List C)
    → AllZip R (map v xs) ys → AllZip (λ x y. R (v x) y) xs ys
AllZip-viewed v R [] [] r = tt
AllZip-viewed v R (x ∷ xs) (y ∷ ys) r = (r.0, AllZip-viewed v R xs ys r.1)
AllZip-viewed v R xs ys r = absurd r

-- each member beside its own view
pub AllZip-start : {A B : Type 0} (R : A → B → Type 0) (view : B → A) (ys : List B) → ((y : B) → R (view y) y)
    → AllZip R (map view ys) ys
AllZip-start R view [] each = tt
AllZip-start R view (y ∷ ys) each = (each y, AllZip-start R view ys each)

-- two lists that change beside each other, each element as P and Q say
pub AllZip-both : {A B C D : Type 0}
    → (P : A → C → Type 0) (Q : B → D → Type 0) (E : A → B → Type 0) (F : C → D → Type 0)
    → ((a : A) (b : B) (c : C) (d : D) → P a c → Q b d → E a b → F c d)
    → (xs : List A) (ys : List B) (zs : List C) (ws : List D) → AllZip P xs zs → AllZip Q ys ws → AllZip E xs ys
    → AllZip F zs ws
AllZip-both P Q E F join [] [] [] [] p q e = tt
AllZip-both P Q E F join (x ∷ xs) (y ∷ ys) (z ∷ zs) (w ∷ ws) p q e =
    (join x y z w p.0 q.0 e.0, AllZip-both P Q E F join xs ys zs ws p.1 q.1 e.1)
AllZip-both P Q E F join xs ys zs ws p q e = absurd (assumption)
