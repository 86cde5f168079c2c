use Rattle.std.proofs.Common.{arith, ◌≡◌, ℕ, List, None, true, false, map, refl, sym, ◌∙◌}
use Rattle.dcc_timing.specs.Numbers.{keep_last}
use Rattle.dcc_timing.specs.Recent.{recent_numbers}
use Rattle.dcc_lost.specs.Joined.{joined, joined_us}
use Rattle.dcc_lost.specs.JoinedLost.{packet_found}
use Rattle.dcc_lost.specs.Lost.{longest_frame_at_end}
use Rattle.dcc_lost.proofs.EndLemmas.{no_end, no_frame}
use Rattle.dcc_lost.proofs.FoundLemmas.{between_is, found_busy, found_none, found_some}
use Rattle.dcc_lost.proofs.joined.packet_at_end.Goals as goal

pub returns-then-not-is_free_end : goal.returns-then-not-is_free_end
returns-then-not-is_free_end c = λ limit durations hears is.
    let busy : c.is_free_end.result ≡ false = grind arith in
    found_busy limit durations (sym (c.is_free_end.ensures ∙ between_is durations _ _ _ hears) ∙ busy)

-- without an end of a packet at the end of the joined half-bits
none_found : (limit : ℕ) (durations last : List ℕ) → last ≡ keep_last 130 (map joined_us (joined limit durations))
    → longest_frame_at_end last ≡ None → None ≡ packet_found limit durations
none_found limit durations last is none = found_none limit durations last (longest_frame_at_end last) is refl none

pub returns-then-not-is_nearest_one : goal.returns-then-not-is_nearest_one
returns-then-not-is_nearest_one c = λ limit durations hears is.
    none_found limit durations (recent_numbers c.args.closed.now.durations) is.durations
    (no_end (recent_numbers c.args.closed.now.durations) c.last.result.now c.first_or_zero.result c.last.ensures
    c.first_or_zero.ensures
    (λ one. let yes = c.is_nearest_one.ensures.1 one in absurd (grind arith)))

pub returns-then-not-has_start_bits : goal.returns-then-not-has_start_bits
returns-then-not-has_start_bits c = λ limit durations hears is.
    none_found limit durations (recent_numbers c.args.closed.now.durations) is.durations
    (no_frame (recent_numbers c.args.closed.now.durations)
    (λ has. let yes = c.has_start_bits.ensures.1 (rw c.last-2.ensures has) in absurd (grind arith)))

pub returns-in-None : goal.returns-in-None
returns-in-None c = λ limit durations hears is.
    found_none limit durations _ _ is.durations c.longest_frame_at_end.ensures c.in-None.is

pub returns-in-Some : goal.returns-in-Some
returns-in-Some c = λ limit durations hears is.
    let between : c.is_free_end.result ≡ true = grind arith in
    found_some limit durations _ c.in-Some.frame _ _
    (sym (c.is_free_end.ensures ∙ between_is durations _ _ _ hears) ∙ between) is.durations
    c.longest_frame_at_end.ensures c.in-Some.is (c.unless_seen.ensures limit durations hears is)
