-- What a loop over the entries leaves of them.
use Rattle.std.proofs.Common.{◌≡◌, ◌∙◌, refl, sym, ap, List, [], ◌∷◌, ◌++◌, append_assoc, append-nil, add-one}
use Rattle.std.proofs.Common.{Some, inl, inr, ℕ, suc, ◌+◌, ◌<◌, ◌≤◌, arith, length, take, drop, set, get_or}
use Rattle.std.proofs.Common.{drop-cons}
use Rattle.std.proofs.lemmas.List.{length-set, drop-set-lt, take_more_set}
use Rattle.std.proofs.Math.ListN.{drop_of_length-le}
use Rattle.std.proofs.Math.Seq.{drop-drop}
use Rattle.std.specs.Prelude.{slice_get}
use Rattle.circular_buffer.proofs.Places.{slice_get-drop}
use Rattle.dcc_packet.specs.declared.packet.Packet.{Packet}
use Rattle.dcc_packet.specs.declared.packet.Packet.TheVariants.{Idle}
use Rattle.dcc_station.specs.Sending.{Displaces, Leaves}

-- the first i of the old entries were looked at, and the first few now are those of them that stay
pub record Passed (p : Packet) (i few : ℕ) (old now : List Packet) : Type 0 where
  pub same_length : length now ≡ length old
  pub unread : drop i now ≡ drop i old
  pub fewer : few ≤ i
  pub leaves : (rest : List Packet) → Leaves p (drop i old) rest → Leaves p old (take few now ++ rest)

unread_more : (i : ℕ) (old now : List Packet) → drop i now ≡ drop i old → drop (i + 1) now ≡ drop (i + 1) old
unread_more i old now e = sym (drop-drop 1 i now) ∙ ap (drop 1) e ∙ drop-drop 1 i old

module _ {p : Packet} {i few : ℕ} {old now : List Packet} (passed : Passed p i few old now) where
  pub passed_all : length old ≤ i → Leaves p old (take few now)
  passed_all past =
      let none : drop i old ≡ [] = drop_of_length-le old past in
      rw append-nil at (passed.leaves [] (rw none refl))

  -- an entry that is looked at
  module _ {e : Packet} (inside : i < length old) (found : slice_get now i ≡ Some e) where
    next_is : drop i old ≡ e ∷ drop (suc i) old
    next_is =
        let next = drop-cons old i Idle inside in
        let same : i ≡ i + 0 = omega arith in
        let k = sym (ap (λ l. slice_get l 0) (passed.unread ∙ next)) ∙ slice_get-drop i now 0 i same ∙ found in
        let is : get_or old i Idle ≡ e = cc in next ∙ ap (λ x. x ∷ drop (suc i) old) is

    pub passed_displaced : Displaces p e → Passed p (i + 1) few old now
    passed_displaced gone = record {
      same_length = passed.same_length;
      unread = unread_more i old now passed.unread;
      fewer = let f = passed.fewer in omega arith;
      leaves = λ rest left. passed.leaves rest (rw next_is (inl (gone, rw (add-one i) at left)));
    }

    pub passed_kept : ¬ Displaces p e → Passed p (i + 1) (few + 1) old (set now few e)
    passed_kept stays =
        let fewer = passed.fewer in
        let long = passed.same_length in record {
          same_length = length-set now few e ∙ long;
          unread = drop-set-lt (i + 1) now few e (omega arith) ∙ unread_more i old now passed.unread;
          fewer = omega arith;
          leaves = λ rest left. rw (take_more_set now few e (omega arith), append_assoc)
              (passed.leaves (e ∷ rest) (rw next_is (inr (stays, (rest, refl, rw (add-one i) at left)))));
        }
