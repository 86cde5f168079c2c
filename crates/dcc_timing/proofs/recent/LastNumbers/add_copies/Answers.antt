use Rattle.std.proofs.Common.{◌≡◌, ◌≤◌, ◌+◌, ◌-◌, ◌∙◌, arith, length, refl}
use borrow.Rule.Slice.PartMut.{mid_len}
use Rattle.dcc_timing.specs.Recent.{recent_numbers}
use Rattle.dcc_timing.proofs.RecentLemmas.{added_copies}
use Rattle.dcc_timing.proofs.recent.LastNumbers.add_copies.Goals as goal

pub returns : goal.returns
unfolding recent_numbers
returns c =
    let at = c.from-len.result in
    let within : at + c.args.count ≤ length c.args.self.now.numbers = omega
    (arith, c.args.self.now.fits, c.requires, c.from-len.ensures) in
    let many : at + c.args.count - at ≡ c.args.count = omega arith in
    added_copies c.args.self.now.numbers c.fill.new.self _ c.args.self.now.len at _ _ c.args.count
    c.args.number c.from-len.ensures refl (omega (arith, c.args.self.now.fits, c.requires))
    (mid_len at (at + c.args.count) c.args.self.now.numbers within ∙ many)
    (c.fill.ensures.after (λ y is. is))
