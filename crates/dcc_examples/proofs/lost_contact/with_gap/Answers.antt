use Rattle.std.proofs.Common.{ℕ, List, ◌≡◌, ◌≤◌, ◌+◌, ◌-◌, ◌++◌, ◌∷◌, [], length, length-append, take, drop}
use Rattle.std.proofs.Common.{append_assoc, arith, ap, sym, ◌∙◌}
use Rattle.std.proofs.Math.Seq.{drop-append-add, take-append-add}
use Rattle.std.proofs.lemmas.List.{drop-append-le, take-append-le}
use Rattle.dcc_wire.specs.Framing.{seen}
use Rattle.dcc_wire.specs.Sending.{at_last_halves, sent, sent_all}
use Rattle.dcc_examples.proofs.lost_contact.with_gap.Goals as goal

-- a gap in the half-bits `halves`, after the half-bits `before` and before the half-bits `after`
gap : (before halves after : List ℕ) (from to : ℕ) → from ≤ length halves → to ≤ length halves
    → take (length before + from) (before ++ (halves ++ after))
    ++ drop (length before + to) (before ++ (halves ++ after))
    ≡ before ++ (take from halves ++ drop to halves) ++ after
gap before halves after from to early late =
    let front : take (length before + from) (before ++ (halves ++ after)) ≡ before ++ take from halves =
    take-append-add before (halves ++ after) from ∙ ap (λ l. before ++ l) (take-append-le from halves after early) in
    let back : drop (length before + to) (before ++ (halves ++ after)) ≡ drop to halves ++ after =
    drop-append-add before (halves ++ after) to ∙ drop-append-le to halves after late in
    ap (λ l. l ++ drop (length before + to) (before ++ (halves ++ after))) front
    ∙ ap (λ l. before ++ take from halves ++ l) back
    ∙ append_assoc before (take from halves) (drop to halves ++ after)
    ∙ ap (λ l. before ++ l) (sym (append_assoc (take from halves) (drop to halves) after))
    ∙ sym (append_assoc before (take from halves ++ drop to halves) after)

pub returns : goal.returns
unfolding sent_all
returns c = λ earlier packet next others whole frames track least most.
    let before : List ℕ = sent_all earlier in
    let halves : List ℕ = sent packet.bytes packet.timing in
    let after : List ℕ = sent_all (next ∷ others) in
    let from : ℕ = c.args.from - length before in
    let to : ℕ = c.args.to - length before in
    let is_from : c.args.from ≡ length before + from = omega (arith, least) in
    let is_to : c.args.to ≡ length before + to = omega (arith, least, c.requires.0) in
    let left : List ℕ = take from halves ++ drop to halves in
    let noise : List ℕ = before ++ left in
    let so_far : List ℕ = noise ++ sent_all (next ∷ []) in
    let items : c.in_ok-heard.heard.items ≡ noise ++ after =
    c.in_ok-heard.ensures
    ∙ ap (λ l. take c.args.from l ++ drop c.args.to l) track
    ∙ ap (λ n. take n (before ++ (halves ++ after)) ++ drop c.args.to (before ++ (halves ++ after))) is_from
    ∙ ap (λ n. take (length before + from) (before ++ (halves ++ after)) ++ drop n (before ++ (halves ++ after))) is_to
    ∙ gap before halves after from to (omega (arith, least, most, c.requires.0)) (omega (arith, most)) in
    let law = c.noise_costs_at_most_the_first_packet.ensures.others noise next others frames in
    let added = c.more_halves_only_add.ensures before (left ++ sent_all (next ∷ [])) in
    let first : seen so_far ≡ at_last_halves 0 earlier ++ added.0 =
    ap seen (append_assoc before left (sent_all (next ∷ []))) ∙ added.1
    ∙ ap (λ l. l ++ added.0) (c.sent_packets_are_seen.ensures earlier whole) in (
      added.0,
      length so_far,
      rw items (omega (arith, length-append {A = ℕ})),
      ap seen items ∙ law ∙ ap (λ l. l ++ at_last_halves (length so_far) others) first,
    )
