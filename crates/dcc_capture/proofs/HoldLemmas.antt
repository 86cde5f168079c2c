-- The lines of half-bits that are at hand.
use Rattle.std.proofs.Common.{◌≡◌, ℕ, ◌+◌, ◌-◌, ◌≤◌, List, [], ◌++◌, length, take, drop, Result, Ok, Err, OnOk}
use Rattle.std.proofs.Common.{refl, sym, ap, ◌∙◌, arith, append_assoc, length-append, take-append-drop}
use Rattle.std.proofs.lemmas.List.{append-nil, length-drop, length-take, length-take-le}
use Rattle.dcc_wire.proofs.ListLemmas.{take_both}
use Rattle.dcc_io.specs.declared.stream.Failed.{Failed}
use Rattle.dcc_io.specs.Counted.{TakesHalves}
use Rattle.dcc_io.specs.declared.fault.ToolFault.TheVariants.{Write}
use Rattle.dcc_io.specs.InputState.{InputState}
use Rattle.dcc_io.specs.WriterState.{WriterState}
use Rattle.dcc_io.proofs.HeldLemmas.{Holds-append, Holds-fails_with, Holds-same}
use Rattle.dcc_capture.specs.HeldRuns.{HoldsLines, HoldsListing}
use Rattle.dcc_capture.specs.Capture.{GaveHalves}
use Rattle.dcc_capture.proofs.HalfLemmas.{halves_taken}
use Rattle.dcc_capture.specs.Shown.{WritesLinesOfCapture}
use Rattle.dcc_capture.proofs.LinesLemmas.{Listing, Listing-halves, OnlyAdds, stops_at_halves}
use Rattle.dcc_capture.proofs.ListingLaws.{AreLines-append}

-- the half-bits after the first `i` half-bits of a list
abbrev pub rest_from : List ℕ → ℕ → List ℕ
rest_from halves i = take (length halves - i) (drop i halves)

pub next_taken : (durations halves : List ℕ) (i k : ℕ)
    → durations ++ take (i + k) halves ≡ (durations ++ take i halves) ++ take k (rest_from halves i)
next_taken durations halves i k = take_both halves i k durations

pub place_of : (durations halves : List ℕ) (i k before : ℕ) → 1 ≤ k → i ≤ length halves → before ≡ length durations
    → before + (i + k) ≡ length (durations ++ take i halves) + k - 1 + 1
place_of durations halves i k before some inside same =
    omega (arith, length-append durations (take i halves), length-take-le i halves, some, inside, same)

pub rest_length : (halves : List ℕ) (i : ℕ) → i ≤ length halves → length (rest_from halves i) ≡ length halves - i
rest_length halves i inside = omega (arith, length-drop i halves, length-take (length halves - i) (drop i halves))

pub count_before : (halves : List ℕ) (count : ℕ) {all before : ℕ} → count ≤ length halves
    → all ≡ before + length (take count halves) → all - count ≡ before
count_before halves count fits all = omega (arith, length-take-le count halves fits, all)

module _ {A : Type 0} {IsLineOf : ℕ → A → List ℕ → Type 0} {items : List ℕ → List (ℕ × A)} where
  pub holds_nothing : (durations : List ℕ) (before : WriterState) (held : List ℕ)
      → HoldsListing IsLineOf items durations [] before held (Ok tt) held before
  holds_nothing durations before held = record {
    some = [];
    rest = [];
    whole = refl;
    all = refl;
    more = [];
    adds = rw (append-nil durations, append-nil (items durations)) refl;
    holds = ([], refl, (rw (append-nil held) (Holds-same before held), refl));
  }

  module _ {first mid : WriterState} {durations halves held kept : List ℕ}
      (so_far : HoldsListing IsLineOf items durations halves first held (Ok tt) kept mid) where
    pub adds_all : items (durations ++ halves) ≡ items durations ++ so_far.more
    adds_all =
        let is : so_far.some ≡ halves = sym (so_far.whole ∙ rw so_far.all (append-nil so_far.some)) in
        rw is at so_far.adds

    module _ (piece : List ℕ) (found : List (ℕ × A))
        (adds : items ((durations ++ halves) ++ piece) ≡ items (durations ++ halves) ++ found) where
      adds_both : items (durations ++ (halves ++ piece)) ≡ items durations ++ (so_far.more ++ found)
      adds_both =
          ap items (sym (append_assoc durations halves piece)) ∙ adds ∙ ap (λ l. l ++ found) adds_all
          ∙ append_assoc (items durations) so_far.more found

      holds_both : (result : Result (Unit {0}) Failed) (left : List ℕ) (after : WriterState)
          → HoldsLines IsLineOf found mid kept result left after
          → HoldsLines IsLineOf (so_far.more ++ found) first held result left after
      holds_both (Ok done) left after wrote = (
        so_far.holds.0 ++ wrote.0,
        AreLines-append IsLineOf so_far.more found so_far.holds.0 wrote.0 so_far.holds.1 wrote.1,
        (
          rw (← append_assoc) (Holds-append _ _ _ _ _ _ _ so_far.holds.2.0 wrote.2.0),
          wrote.2.1 ∙ so_far.holds.2.1,
        ),
      )
      holds_both (Err failed) left after wrote = (
        so_far.holds.0 ++ wrote.0,
        AreLines-append IsLineOf so_far.more found so_far.holds.0 wrote.0 so_far.holds.1 wrote.1,
        (
          rw (← append_assoc) (Holds-fails_with _ _ _ _ _ _ so_far.holds.2.0 wrote.2.0),
          rw so_far.holds.2.1 at wrote.2.1,
        ),
      )

      -- more half-bits, or a failed write before the half-bits `behind`
      pub holds_more : (result : Result (Unit {0}) Failed) (behind whole : List ℕ) {left : List ℕ}
          {after : WriterState} → OnOk result (behind ≡ []) → whole ≡ (halves ++ piece) ++ behind
          → HoldsLines IsLineOf found mid kept result left after
          → HoldsListing IsLineOf items durations whole first held result left after
      holds_more result behind whole all cut wrote = record {
        some = halves ++ piece;
        rest = behind;
        whole = cut;
        all = all;
        more = so_far.more ++ found;
        adds = adds_both;
        holds = holds_both result _ _ wrote;
      }

  module _ {first mid : WriterState} {held kept : List ℕ} (durations halves : List ℕ) (i k : ℕ)
      (found : List (ℕ × A))
      (adds : items ((durations ++ take i halves) ++ take k (rest_from halves i))
      ≡ items (durations ++ take i halves) ++ found)
      (so_far : HoldsListing IsLineOf items durations (take i halves) first held (Ok tt) kept mid) where
    -- more half-bits of a list
    pub holds_next : {left : List ℕ} {after : WriterState} → HoldsLines IsLineOf found mid kept (Ok tt) left after
        → HoldsListing IsLineOf items durations (take (i + k) halves) first held (Ok tt) left after
    holds_next wrote =
        holds_more so_far _ found adds (Ok tt) [] _ refl
        (next_taken [] halves i k ∙ sym (append-nil (take i halves ++ take k (rest_from halves i)))) wrote

    -- a write failed after more half-bits
    pub holds_until : (failed : Failed) {left : List ℕ} {after : WriterState}
        → HoldsLines IsLineOf found mid kept (Err failed) left after
        → HoldsListing IsLineOf items durations halves first held (Err failed) left after
    holds_until failed wrote =
        holds_more so_far _ found adds (Err failed) (drop (i + k) halves) _ tt
        (sym (take-append-drop (i + k) halves)
        ∙ ap (λ l. l ++ drop (i + k) halves) (next_taken [] halves i k)) wrote

  module _ {Follows : List ℕ → Type 0} {start old new : InputState} {held : List ℕ} {before mid : WriterState}
      (listing : Listing IsLineOf items Follows start old held before mid) where
    -- half-bits at hand are the next of a listing
    pub next_halves : {halves : List ℕ} → TakesHalves old halves new → GaveHalves old halves new
    next_halves taken = halves_taken _ _ _ listing.gave.items.fault taken

    pub Listing-held : {Next : List ℕ → Type 0} {given left : List ℕ} {after : WriterState}
        → GaveHalves old given new → Next (listing.halves ++ given)
        → HoldsListing IsLineOf items listing.halves given mid held (Ok tt) left after
        → Listing IsLineOf items Next start new left before after
    Listing-held {given = given} gave stands held =
        Listing-halves given listing gave held.holds.0 held.more stands (adds_all held) held.holds.1 held.holds.2.0
        held.holds.2.1

    -- a write failed where lines of the half-bits `given` were to be held
    pub stops_held : OnlyAdds items → {given left : List ℕ} {failed : Failed} {after : WriterState}
        → GaveHalves old given new
        → HoldsListing IsLineOf items listing.halves given mid held (Err failed) left after
        → WritesLinesOfCapture IsLineOf items start before (Err Write) new after
    stops_held grows {given = given} gave held =
        stops_at_halves given listing gave grows held.some held.rest held.holds.0 held.more held.whole held.adds
        held.holds.1 held.holds.2.0 held.holds.2.1
