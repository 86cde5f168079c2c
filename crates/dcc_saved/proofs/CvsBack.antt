-- The lines of CVs are read again, with the line behind them.
use Rattle.std.proofs.Common.{zero, suc, ◌≡◌, ℕ, ◌+◌, ◌-◌, ◌<◌, ◌≤◌, Bool, true, false, eqb, List, [], ◌++◌}
use Rattle.std.proofs.Common.{length, replicate, slice_set, if◌then◌else◌, inl, inr, refl}
use Rattle.std.proofs.Common.{◌∙◌, arith, append_assoc}
use Rattle.std.proofs.lemmas.Bool.{eqb-true, cases_lt}
use Rattle.std.proofs.lemmas.Grind.{common_steps}
use Rattle.std.proofs.lemmas.List.{get_or-replicate, set-get_or, length-set, length-replicate}
use Rattle.dcc_packet.specs.declared.cv.CvNumber.{CvNumber}
use Rattle.dcc_packet.specs.Cvs.{cv_in}
use Rattle.dcc_saved.specs.declared.decoder_line.Head.{Head}
use Rattle.dcc_saved.specs.declared.decoder_line.LocoLine.TheVariants as behind
use Rattle.dcc_saved.specs.DecoderLines.{head_line, loco_line}
use Rattle.dcc_saved.specs.DecoderText.{cvs_from, cvs_lines}
use Rattle.dcc_saved.specs.FleetText.{cv_line, cvs_text}
use Rattle.dcc_saved.specs.Lines.{line_text}
use Rattle.dcc_saved.specs.PossibleLines.{IsPossibleHead}
use Rattle.dcc_saved.proofs.LinesBack.{Reads, Reads-then, Reads-last, IsLineBack, line_back}

module _ (cvs : ℕ → ℕ) where
  -- the list behind the lines up to this CV
  so_far : ℕ → List ℕ
  so_far zero = replicate 1024 0
  so_far (suc n) = slice_set (so_far n) (suc n - 1) (cvs (suc n))

  whole : (n : ℕ) → length (so_far n) ≡ 1024
  unfolding so_far
  whole zero = length-replicate {A = ℕ} 1024 0
  whole (suc n) = length-set (so_far n) (suc n - 1) (cvs (suc n)) ∙ whole n

  -- the CVs up to this one are given, and the others are 0
  given : (n cv : ℕ) → n ≤ 1024 → 1 ≤ cv → cv ≤ n → cv_in (so_far n) cv ≡ cvs cv
  unfolding so_far
  given zero cv few some within = absurd (omega (arith, some, within))
  given (suc n) cv few some within = elim (cases_lt n cv) [
    | inl last ↦ let same : cv ≡ suc n = omega (arith, within, last) in
        let all = whole n in rw same (grind (common_steps, arith, all))
    | inr ge ↦ let before = given n cv (omega (arith, few)) some ge in grind (common_steps, arith, before)
  ]

  none : (n cv : ℕ) → n < cv → cv ≤ 1024 → cv_in (so_far n) cv ≡ 0
  unfolding so_far
  none zero cv past few = get_or-replicate 1024 (cv - 1) 0 0 (omega (arith, past, few))
  none (suc n) cv past few =
      let before = none n cv (omega (arith, past)) few in grind (common_steps, arith, before)

  -- a CV that is 0 needs no line
  same_list : (n : ℕ) → n < 1024 → cvs (suc n) ≡ 0 → so_far (suc n) ≡ so_far n
  unfolding so_far
  same_list n few is =
      rw (is, ← (none n (suc n) (omega arith) few)) (set-get_or (so_far n) (suc n - 1) 0)

  module _ (small : (n : ℕ) → cvs n < 256) (lines : (least : ℕ) → IsLineBack (loco_line least)) (read : List ℕ × Head)
    where
      -- what stands behind the lines up to this CV is read so
      abbrev Behind : ℕ → List ℕ → Type 0
      Behind n text =
          (most least : ℕ) → 1024 ≤ most + n → least ≤ suc n → Reads (cvs_from (suc most) least (so_far n)) text read

      one_line : (n : ℕ) (text : List ℕ) → n < 1024 → Behind (suc n) text → (b : Bool) → eqb (cvs (suc n)) 0 ≡ b
          → Behind n ((if b then [] else cv_line (suc n) (cvs (suc n))) ++ text)
      unfolding so_far
      one_line n text few after true is most least room ascends =
          let same = same_list n few (eqb-true (cvs (suc n)) 0 is) in
          rw same at (after most least (omega (arith, room)) (omega (arith, ascends)))
      one_line n text few after false is zero least room ascends = absurd (omega (arith, few, room))
      one_line n text few after false is (suc most) least room ascends =
          let cv : CvNumber = record { number = suc n; in_range = (omega arith, omega (arith, few)) } in
          Reads-then _ (line_back (loco_line least) (lines least) (behind.Cv cv (cvs (suc n))) (ascends, small (suc n)))
          (after most (suc n + 1) (omega (arith, room)) (omega arith))

      all_lines : (n : ℕ) (text : List ℕ) → n ≤ 1024 → Behind n text
          → Reads (cvs_from 1025 1 (replicate 1024 0)) (cvs_text cvs n ++ text) read
      unfolding cvs_text so_far
      all_lines zero text few after = after 1024 1 (omega arith) (omega arith)
      all_lines (suc n) text few after =
          rw (append_assoc (cvs_text cvs n))
          (all_lines n _ (omega (arith, few)) (one_line n text few after (eqb (cvs (suc n)) 0) refl))

-- all CVs, and the line behind them
pub record ReadsCvs (cvs : ℕ → ℕ) (head : Head) : Type 0 where
  pub given : List ℕ
  pub reads : Reads cvs_lines (cvs_text cvs 1024 ++ line_text head_line head) (given, head)
  pub each : (cv : ℕ) → 1 ≤ cv → cv ≤ 1024 → cv_in given cv ≡ cvs cv

pub cvs_read : (cvs : ℕ → ℕ) → ((n : ℕ) → cvs n < 256) → ((least : ℕ) → IsLineBack (loco_line least))
    → (head : Head) → IsPossibleHead head → ReadsCvs cvs head
unfolding cvs_lines
cvs_read cvs small lines head possible = record {
  given = so_far cvs 1024;
  reads = all_lines cvs small lines (so_far cvs 1024, head) 1024 (line_text head_line head) (omega arith)
      (λ most least room ascends.
      Reads-last _ (line_back (loco_line least) (lines least) (behind.Head head) possible) (λ text. refl));
  each = λ cv some within. given cvs 1024 cv (omega arith) some within;
}
