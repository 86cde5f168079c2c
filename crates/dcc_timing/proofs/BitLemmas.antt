-- The bits of some halves, added one by one.
use Rattle.std.proofs.Common.{◌≡◌, ℕ, ◌+◌, ◌<◌, ◌≤◌, List, [], ◌∷◌, ◌++◌, length, refl, sym, ap, ◌∙◌, arith}
use Rattle.std.proofs.Common.{append_assoc}
use Rattle.std.proofs.Common.{◌-◌, append-nil, subst, drop, get_or}
use Rattle.std.proofs.lemmas.List.{drop_more}
use Rattle.dcc_timing.specs.declared.bits.Bits.{Bits}
use Rattle.dcc_timing.specs.PacketBits.{AreBits, pairs}
use Rattle.dcc_timing.specs.Inner.Counts.{bits_count}

-- some of the bits were added, and the rest come of these halves
pub record Adding (start now : Bits) (halves rest : List ℕ) : Type 0 where
  pub done : List (ℕ × ℕ)
  pub whole : pairs halves ≡ done ++ pairs rest
  pub added : (bits : List (ℕ × ℕ)) → AreBits start bits → AreBits now (bits ++ done)
  pub count : bits_count now + length rest ≤ bits_count start + length halves

pub adding_none : (start : Bits) (halves : List ℕ) → Adding start start halves halves
adding_none start halves = record {
  done = [];
  whole = refl;
  added = λ bits are. subst (λ l. AreBits start l) (sym (append-nil bits)) are;
  count = omega arith;
}

pub adding_more : (start now next : Bits) (halves rest more : List ℕ) (first second : ℕ)
    → rest ≡ first ∷ second ∷ more
    → ((bits : List (ℕ × ℕ)) → AreBits now bits → AreBits next (bits ++ (first, second) ∷ []))
    → bits_count next ≤ bits_count now + 1 → Adding start now halves rest → Adding start next halves more
unfolding pairs
adding_more start now next halves rest more first second splits adds few so_far = record {
  done = so_far.done ++ (first, second) ∷ [];
  whole = so_far.whole ∙ ap (λ l. so_far.done ++ pairs l) splits
      ∙ sym (append_assoc so_far.done ((first, second) ∷ []) (pairs more));
  added = λ bits are. subst (λ l. AreBits next l) (append_assoc bits so_far.done ((first, second) ∷ []))
      (adds (bits ++ so_far.done) (so_far.added bits are));
  count = omega (arith, few, so_far.count, ap length splits);
}

pub next_pair : (halves : List ℕ) (place : ℕ) → 1 < length halves - place
    → drop place halves ≡ get_or halves place 0 ∷ get_or halves (place + 1) 0 ∷ drop (place + 2) halves
next_pair halves place two =
    drop_more halves place 0 (omega (arith, two))
    ∙ ap (λ l. get_or halves place 0 ∷ l) (drop_more halves (place + 1) 0 (omega (arith, two))
    ∙ ap (λ n. get_or halves (place + 1) 0 ∷ drop n halves) (omega arith))

pairs_short : (halves : List ℕ) → length halves < 2 → pairs halves ≡ []
unfolding pairs
pairs_short [] short = refl
pairs_short (half ∷ []) short = refl
pairs_short (half ∷ other ∷ halves) short = absurd (omega (arith, short))

pub adding_all : (start now : Bits) (halves rest : List ℕ) → length rest < 2 → Adding start now halves rest
    → (bits : List (ℕ × ℕ)) → AreBits start bits → AreBits now (bits ++ pairs halves)
adding_all start now halves rest short so_far bits are =
    subst (λ l. AreBits now (bits ++ l))
    (sym (so_far.whole ∙ ap (λ l. so_far.done ++ l) (pairs_short rest short) ∙ append-nil so_far.done))
    (so_far.added bits are)
