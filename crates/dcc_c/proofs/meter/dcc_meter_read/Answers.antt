use Rattle.std.proofs.Common.{◌≡◌, ℕ, Bool, false, Option, Some, None, refl, ◌∙◌}
use Rattle.std.specs.Option.{is_some}
use Rattle.std.specs.Prelude.{unwrap_or}
use Rattle.dcc_c.specs.Statistics.{number_if}
use Rattle.dcc_c.proofs.meter.dcc_meter_read.Goals as goal

-- an option by two fields
by_fields : (option : Option ℕ) (has : Bool) (number : ℕ) → has ≡ is_some option → number ≡ unwrap_or option 0
    → number_if has number ≡ option
by_fields None has number e same = rw e refl
by_fields (Some other) has number e same = rw (e, same) refl

-- without a number the second field is 0
none_by_fields : (option : Option ℕ) (has : Bool) (number : ℕ) → has ≡ is_some option → number ≡ unwrap_or option 0
    → has ≡ false → number ≡ 0
none_by_fields None has number e same none = same
none_by_fields (Some other) has number e same none = absurd (cc)

pub returns : goal.returns
returns c = λ halves track.
    let are = c.timings-timings.ensures halves track in
    record {
      count = c.halves.ensures.length halves are;
      time = c.time.ensures halves are;
      classes = c.classes.ensures halves are;
      outcomes = c.outcomes.ensures halves are;
      bits = c.bits.ensures halves are;
      gap = by_fields c.longest_gap-gap.result _ _ c.is_some-2.ensures c.unwrap_or.ensures
          ∙ c.longest_gap-gap.ensures halves are;
      no_gap = none_by_fields c.longest_gap-gap.result _ _ c.is_some-2.ensures c.unwrap_or.ensures;
      lost = c.lost.ensures halves track;
      preamble = by_fields c.shortest_preamble-preamble.result _ _ c.is_some.ensures c.unwrap_or-2.ensures
          ∙ c.shortest_preamble-preamble.ensures halves track;
      no_preamble = none_by_fields c.shortest_preamble-preamble.result _ _ c.is_some.ensures c.unwrap_or-2.ensures;
    }
