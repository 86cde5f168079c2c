use Rattle.std.proofs.Common.{◌≡◌, ◌++◌, ◌∷◌, [], ℕ, List, length, take, subst, sym, ◌∙◌, ap, arith, append-nil, refl}
use Rattle.std.specs.Prelude.{Option, None, Some}
use Rattle.dcc_lost.specs.declared.causes.LostPacket.{LostPacket}
use Rattle.dcc_lost.specs.Causes.{packets_lost, report_lost}
use Rattle.dcc_lost.specs.Reads.{Follows}
use Rattle.dcc_c.proofs.ArrayLemmas.{last_place, one_more}
use Rattle.dcc_c.proofs.lost.dcc_lost_push_many.Goals as goal

-- a half-bit at which no packet is lost adds nothing to a list of lost packets
unreported : (place : ℕ) (lost : Option LostPacket) (l : List (ℕ × LostPacket)) → lost ≡ None
    → l ++ report_lost place lost ≡ l
unfolding report_lost
unreported place lost l e = rw e (append-nil l)

no_some : (o : Option LostPacket) → ((lost : LostPacket) → o ≡ Some lost → ⊥) → o ≡ None
no_some None h = refl
no_some (Some lost) h = absurd (h lost refl)

pub halves-init : goal.halves-init
halves-init c = record {
  within = omega arith;
  reads = λ track f. subst (Follows c.args.finder.now) (sym (append-nil track)) f;
  none = λ track f. ap packets_lost (append-nil track);
  packet = λ i. c.args.packet.now;
}

pub halves-preserved : goal.halves-preserved
halves-preserved c =
    let one = λ (track : List ℕ). one_more track c.args.halves.now c.halves.at c.halves-test.true in
    let before = λ (track : List ℕ). track ++ take c.halves.at c.args.halves.now in
    let pushed = c.push-lost.ensures in record {
      within = omega (arith, c.halves-test.true);
      reads = λ track f. subst (Follows c.push-lost.new.self) (one track)
          (pushed.reads (before track) (c.halves.invariant.reads track f));
      none = λ track f. ap packets_lost (sym (one track))
          ∙ pushed.grows (before track) (c.halves.invariant.reads track f)
          ∙ unreported (length (before track)) c.push-lost.result (packets_lost (before track))
          (no_some c.push-lost.result c.in_default.not-Some)
          ∙ c.halves.invariant.none track f;
      packet = c.halves.invariant.packet;
    }

pub returns-in-Some-clause-reads : goal.returns-in-Some-clause-reads
returns-in-Some-clause-reads c track f =
    subst (Follows c.push-lost.new.self) (one_more track c.args.halves.now c.halves.at c.halves-test.true)
    (c.push-lost.ensures.reads (track ++ take c.halves.at c.args.halves.now) (c.halves.invariant.reads track f))

pub returns-in-Some-clause-some : goal.returns-in-Some-clause-some
unfolding report_lost
returns-in-Some-clause-some c track f some =
    let halves = c.args.halves.now in
    let before = track ++ take c.halves.at halves in
    let grows = c.push-lost.ensures.grows before (c.halves.invariant.reads track f) in (
      c.in-Some.lost,
      ap packets_lost (sym (one_more track halves c.halves.at c.halves-test.true)) ∙ grows
          ∙ ap (λ (l : Option LostPacket). packets_lost before ++ report_lost (length before) l) c.in-Some.is
          ∙ ap (λ (l : List (ℕ × LostPacket)). l ++ (length before, c.in-Some.lost) ∷ [])
          (c.halves.invariant.none track f)
          ∙ ap (λ (n : ℕ). packets_lost track ++ (n, c.in-Some.lost) ∷ [])
          (last_place track halves c.halves.at c.halves-test.true),
      c.lost_numbers.ensures,
    )
