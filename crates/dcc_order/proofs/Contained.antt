-- What a list contains, and what holds of lists as they grow at the end.
use Rattle.std.proofs.Common.{◌∙◌, ap, map, ◌++◌, sym, subst, append-nil, append_assoc, ◌≡◌, ◌<◌, zero, suc, refl}
use Rattle.std.proofs.Common.{arith, List, [], ◌∷◌, inl, inr}
use Rattle.std.specs.Prelude.{Contains, ◌⊎◌}
use Rattle.std.specs.List.{AllByRecursion}
use Rattle.std.proofs.lemmas.List.{get_or-map, length-map}
use Rattle.std.proofs.lemmas.List.Elements.{All-contains, All-from_recursion, Contains-append_right}

pub contains_none : {X : Type 0} (x : X) → Contains [] x → ⊥
contains_none x h = absurd (let low : h.0 < 0 = h.1 in omega arith)

pub contains_head : {X : Type 0} (x : X) (l : List X) → Contains (x ∷ l) x
contains_head x l = (zero, omega arith, refl)

pub contains_tail : {X : Type 0} (x : X) (l : List X) (y : X) → Contains l y → Contains (x ∷ l) y
contains_tail x l y h = Contains-append_right (x ∷ []) l y h

pub contains_cases : {X : Type 0} (x : X) (l : List X) (y : X) → Contains (x ∷ l) y → (x ≡ y) ⊎ Contains l y
contains_cases x l y (zero, inside, is) = inl is
contains_cases x l y (suc k, inside, is) = inr (k, (omega (arith, inside)), is)

pub contains_all : {X : Type 0} (P : X → Type 0) (l : List X) (x : X) → AllByRecursion P l → Contains l x → P x
contains_all P l x all h = All-contains P l x (All-from_recursion P l all) h

pub contains_map : {X Y : Type 0} (f : X → Y) (l : List X) (x : X) → Contains l x → Contains (map f l) (f x)
contains_map f l x (i, inside, is) = (i, rw (length-map l f) inside, get_or-map f l i x (f x) inside ∙ ap f is)

-- a proof along a list, from its first element to its last
pub snoc : {X : Type 0} (P : List X → Type 0) → P [] → ((l : List X) (x : X) → P l → P (l ++ x ∷ []))
    → (l : List X) → P l
snoc {X} P none more l = go [] l none
  where
    go : (done rest : List X) → P done → P (done ++ rest)
    go done [] h = subst P (sym (append-nil done)) h
    go done (x ∷ rest) h = subst P (append_assoc done (x ∷ []) rest) (go (done ++ x ∷ []) rest (more done x h))
