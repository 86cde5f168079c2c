-- The packets of a block, each once, their numbers, and an index of these.
use Rattle.std.proofs.Common.{ℕ, ◌<◌, ◌≤◌, ◌≡◌, refl, sym, subst, false, List, [], ◌∷◌, ◌++◌, inl, inr, length, arith}
use Rattle.std.proofs.Common.{get_or, suc, ◌∙◌, cond, Option, Some}
use Rattle.std.specs.Prelude.{Contains, not, slice_index}
use Rattle.std.specs.List.{position}
use Rattle.std.specs.Option.{unwrap_or}
use Rattle.std.specs.Ordering.{nat_cmp}
use Rattle.std.specs.BTreeMap.{is_at}
use Rattle.std.proofs.Math.ListN.{get_or-append}
use Rattle.std.proofs.lemmas.Bool.{cases_eq}
use Rattle.std.proofs.lemmas.Bool.Decides.{nat_tests}
use Rattle.std.proofs.lemmas.List.{length-append, get_or_push}
use Rattle.std.proofs.lemmas.List.Folds.{position_or_len_push}
use Rattle.std.proofs.lemmas.List.Sums.{passes_at_first, prefix_len-le-length}
use Rattle.std.proofs.lemmas.List.Elements.{Contains-append_left, Contains-push, Contains-push_cases}
use Rattle.dcc_wire.specs.Frames.{IsFrame}
use Rattle.dcc_packet.specs.declared.packet.Packet.{Packet}
use Rattle.dcc_packet.specs.SamePacket.{same}
use Rattle.dcc_packet.specs.Spelling.{spelling}
use Rattle.dcc_packet.proofs.SameFrames.{Decides-same, same-refl}
use Rattle.dcc_packet.proofs.OneSpelling.{one_packet}
use Rattle.dcc_order.specs.Members.{member_number, AreMembers}
use Rattle.dcc_order.specs.FrameNumbers.{frame_number, IsIndex}
use Rattle.dcc_order.proofs.AlikeBlocks.{same_tells}

pub number-within : (members : List Packet) (p : Packet) → member_number members p ≤ length members
number-within members p = prefix_len-le-length (λ m. not (same p m)) members

-- a packet that has a number stands there
pub stands_at : (members : List Packet) (p d : Packet) → member_number members p < length members
    → p ≡ get_or members (member_number members p) d
stands_at members p d inside =
    (Decides-same p (get_or members (member_number members p) d)).0 (passes_at_first (same p) members d inside)

pub place_contains : (members : List Packet) (p : Packet) → member_number members p < length members
    → Contains members p
place_contains members p inside = (member_number members p, inside, sym (stands_at members p p inside))

-- members with one packet more, which has this number: the others keep theirs
pub record Grows (members more : List Packet) (n : ℕ) (x : Packet) : Type 0 where
  pub kept : (k : ℕ) (d : Packet) → k < length members → (k < length more) × (get_or more k d ≡ get_or members k d)
  pub inside : n < length more
  pub number : member_number more x ≡ n
  pub others : (p : Packet) → same p x ≡ false → position (same p) more ≡ position (same p) members
  pub are : (block : List Packet) → AreMembers members block → AreMembers more (block ++ x ∷ [])

-- the packet was a member already
pub known_member : (members : List Packet) (x : Packet) → member_number members x < length members
    → Grows members members (member_number members x) x
known_member members x inside = record {
  kept = λ k d below. (below, refl);
  inside = inside;
  number = refl;
  others = λ p apart. refl;
  are = λ block are. record {
    same_set = λ p. (
      λ h. Contains-append_left block (x ∷ []) p ((are.same_set p).0 h),
      λ h. elim (Contains-push_cases block x p h) [
        | inl old ↦ (are.same_set p).1 old
        | inr e ↦ subst (Contains members) e (place_contains members x inside)
      ],
    );
    once = are.once;
  };
}

-- it was none
pub new_member : (members : List Packet) (x : Packet) → member_number members x ≡ length members
    → Grows members (members ++ x ∷ []) (length members) x
new_member members x none = record {
  kept = λ k d below. (omega (arith, length-append {A = Packet}), get_or-append members (x ∷ []) d k below);
  inside = omega (arith, length-append {A = Packet});
  number = number;
  others = λ p apart. grind
      (arith, nat_tests, position_or_len_push (same p) members x, length-append, number-within members p);
  are = λ block are. record {
    same_set = λ p. (
      λ h. elim (Contains-push_cases members x p h) [
        | inl old ↦ Contains-append_left block (x ∷ []) p ((are.same_set p).0 old)
        | inr e ↦ subst (Contains (block ++ x ∷ [])) e (Contains-push block x)
      ],
      λ h. elim (Contains-push_cases block x p h) [
        | inl old ↦ Contains-append_left members (x ∷ []) p ((are.same_set p).1 old)
        | inr e ↦ subst (Contains (members ++ x ∷ [])) e (Contains-push members x)
      ],
    );
    once = λ k d h. elim (cases_eq k (length members)) [
      | inl last ↦ rw (get_or_push members x d k (sym last), number) (sym last)
      | inr apart ↦
          (let inside : k < length members = omega (arith, h, length-append members (x ∷ []), apart) in
          let there = are.once k d inside in
          rw get_or-append (grind (arith, nat_tests, position_or_len_push (same (get_or members k d)) members x)))
    ];
  };
}
  where
    number : member_number (members ++ x ∷ []) x ≡ length members
    number = grind (arith, nat_tests, position_or_len_push (same x) members x, same-refl x)

abbrev AllLow : List ℕ → Type 0
AllLow bytes = (i : ℕ) → slice_index bytes i < 256

positive : (bytes : List ℕ) → 0 < frame_number bytes
positive [] = omega arith
positive (b ∷ bytes) = omega (arith, positive bytes)

-- no two frames have one number
one_frame : (xs ys : List ℕ) → AllLow xs → AllLow ys → frame_number xs ≡ frame_number ys → xs ≡ ys
one_frame [] [] low mine e = refl
one_frame (x ∷ xs) (y ∷ ys) low mine e =
    let first : x ≡ y = omega (arith, low 0, mine 0) in
    let rest = one_frame xs ys (λ i. low (suc i)) (λ i. mine (suc i)) (omega (arith, low 0, mine 0)) in cc
one_frame [] (y ∷ ys) low mine e = absurd (omega (arith, positive ys))
one_frame (x ∷ xs) [] low mine e = absurd (omega (arith, positive xs))

module _ (found : ℕ → Option ℕ) (members : List Packet) (x : Packet) (key number : ℕ) (index : IsIndex found members)
    (frame : IsFrame (spelling x)) (is : key ≡ frame_number (spelling x)) where
  -- the number that an index has for a packet, or how many there are
  pub number_is : number ≡ unwrap_or (found key) (length members) → number ≡ member_number members x
  number_is told = told ∙ rw (is, index x frame) (grind (arith, nat_tests, number-within members x))

  -- the index after the number was put at that of the packet's frame
  pub index_more : (then_found : ℕ → Option ℕ) {more : List Packet} → Grows members more number x
      → ((q : ℕ) → then_found q ≡ cond (is_at (nat_cmp key) q) (Some number) (found q)) → IsIndex then_found more
  index_more then_found g put p own = put (frame_number (spelling p)) ∙ elim (same_tells p x) [
    | inl (t, same_as) ↦ rw (same_as, ← is) (grind (arith, nat_tests, g.number, g.inside))
    | inr (t, apart) ↦
        (let off : key ≡ frame_number (spelling p) → ⊥ =
        λ e. apart (one_packet p x (one_frame (spelling p) (spelling x) own.each frame.each (sym e ∙ is))) in
        rw (index p own, g.others p t) (grind (arith, off)))
  ]
