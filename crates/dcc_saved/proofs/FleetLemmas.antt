-- A text that is written piece by piece.
use Rattle.std.proofs.Common.{zero, suc, ◌≡◌, ℕ, eqb, if◌then◌else◌, ◌+◌, ◌<◌, ◌≤◌, List, [], ◌++◌, length, map, drop}
use Rattle.std.proofs.Common.{slice_index_or, Result}
use Rattle.std.proofs.Common.{Ok, Err, refl, sym, ◌∙◌, append_assoc, add-one, arith}
use Rattle.std.proofs.lemmas.List.{append-nil, drop_all}
use Rattle.std.proofs.Math.Seq.{drop-cons}
use Rattle.std.specs.List.{flat_map}
use Rattle.std.specs.Result.{IsErr}
use Rattle.dcc_io.specs.declared.stream.Failed.{Failed}
use Rattle.dcc_io.specs.WriterState.{WriterState}
use Rattle.dcc_io.specs.WrittenBytes.{Writes}
use Rattle.dcc_io.proofs.WrittenLemmas.{Appends-none, Appends-append, front_behind, AppendsFront-more}
use Rattle.dcc_regs.specs.declared.register.Who.{Who}
use Rattle.dcc_regs.specs.Result.{RegisterMap}
use Rattle.dcc_saved.specs.declared.decoder_line.Head.TheVariants as heads
use Rattle.dcc_saved.specs.DecoderLines.{head_line}
use Rattle.dcc_saved.specs.FleetText.{cv_line, cvs_text, text_of, fleet_text}
use Rattle.dcc_saved.specs.Lines.{line_text}

-- of this text all but the rest was written
pub record Wrote (before : WriterState) (whole rest : List ℕ) (now : WriterState) : Type 0 where
  pub front : List ℕ
  pub is : whole ≡ front ++ rest
  pub written : Writes before front (Ok tt) now

pub Wrote-nothing : (before : WriterState) (whole : List ℕ) → Wrote before whole whole before
Wrote-nothing before whole = record { front = []; is = refl; written = (Appends-none before, refl) }

-- one piece more was written
pub Wrote-more : {before mid after : WriterState} {whole rest ys : List ℕ} (xs : List ℕ) → Wrote before whole rest mid
    → rest ≡ xs ++ ys → Writes mid xs (Ok tt) after → Wrote before whole ys after
Wrote-more {before} {mid} {after} {whole} {rest} {ys} xs so_far is next = record {
  front = so_far.front ++ xs;
  is = so_far.is ∙ rw is (sym (append_assoc so_far.front xs ys));
  written = (
    Appends-append before mid after so_far.front xs so_far.written.0 next.0,
    next.1 ∙ so_far.written.1,
  );
}

-- the write of a piece failed
pub Writes-stopped : {before mid : WriterState} (after : WriterState) {whole rest : List ℕ} (xs ys : List ℕ)
    (result : Result (Unit {0}) Failed) (failed : Failed) → IsErr result → Wrote before whole rest mid → rest ≡ xs ++ ys
    → Writes mid xs (Err failed) after → Writes before whole result after
Writes-stopped after xs ys (Ok done) failed none so_far is next = cc
Writes-stopped {before} {mid} after xs ys (Err other) failed some so_far is next = (
  rw (so_far.is, is)
      (front_behind before mid after so_far.front (xs ++ ys) so_far.written.0
      (AppendsFront-more mid after xs ys next.0)),
  rw so_far.written.1 at next.1,
)

-- nothing is left, and the last piece
pub Wrote-all : {before : WriterState} {whole rest : List ℕ} (now : WriterState) → Wrote before whole rest now → rest
    ≡ []
    → Writes before whole (Ok tt) now
Wrote-all now so_far is = rw (so_far.is, is, append-nil) so_far.written

pub Writes-last : {before mid : WriterState} (after : WriterState) {whole rest : List ℕ} (xs : List ℕ)
    (result : Result (Unit {0}) Failed) → Wrote before whole rest mid → rest ≡ xs → Writes mid xs result after
    → Writes before whole result after
Writes-last after xs (Ok done) so_far is next =
    Wrote-all after (Wrote-more xs so_far (is ∙ sym (append-nil xs)) next) refl
Writes-last after xs (Err failed) so_far is next =
    Writes-stopped after xs [] (Err failed) failed refl so_far (is ∙ sym (append-nil xs)) next

-- the lines of CVs: a CV that is not 0 has one
abbrev line_or_none : (ℕ → ℕ) → ℕ → List ℕ
line_or_none cvs n = if eqb (cvs n) 0 then [] else cv_line n (cvs n)

pub cvs_none : (cvs : ℕ → ℕ) → cvs_text cvs 0 ≡ []
unfolding cvs_text
cvs_none cvs = refl

pub cvs_next : (cvs : ℕ → ℕ) (n : ℕ) → cvs_text cvs (n + 1) ≡ cvs_text cvs n ++ line_or_none cvs (n + 1)
unfolding cvs_text
cvs_next cvs n = rw add-one refl

-- what stands behind the line of a CV
pub cvs_later : (cvs : ℕ → ℕ) (n c last : ℕ) → last ≡ n + 1 + c
    → (later : List ℕ) × (cvs_text cvs last ≡ cvs_text cvs n ++ (line_or_none cvs (n + 1) ++ later))
unfolding cvs_text
cvs_later cvs n zero last is =
    let next : last ≡ n + 1 = omega arith in ([], rw (next, cvs_next, append-nil (line_or_none cvs (n + 1))) refl)
cvs_later cvs n (suc c) last is =
    let next : last ≡ suc (n + 1 + c) = omega arith in
    let front = cvs_later cvs n c (n + 1 + c) refl in
    (front.0 ++ line_or_none cvs (suc (n + 1 + c)), rw (next, front.1) (simp append_assoc))

-- the texts of the decoders from one on, and the line behind them
module _ {A : Type 0} (view : A → Who × RegisterMap) where
  abbrev pub texts : List A → List ℕ
  texts fleet = flat_map text_of (map view fleet) ++ line_text head_line heads.End

  -- those before this one were written
  abbrev pub WroteUpTo : WriterState → List A → ℕ → WriterState → Type 0
  WroteUpTo before fleet i now = Wrote before (fleet_text (map view fleet)) (texts (drop i fleet)) now

  pub texts_next : (xs : List A) (i : ℕ) (x : A) → i < length xs → x ≡ slice_index_or xs i x
      → texts (drop i xs) ≡ text_of (view x) ++ texts (drop (i + 1) xs)
  texts_next xs i x within is =
      rw (drop-cons xs i x within, ← is, add-one)
      (append_assoc (text_of (view x)) (flat_map text_of (map view (drop (suc i) xs))) (line_text head_line heads.End))

  pub texts_none : (xs : List A) (i : ℕ) → length xs ≤ i → texts (drop i xs) ≡ line_text head_line heads.End
  texts_none xs i past = rw (drop_all i xs past) refl
